-- What holds of every report's bytes: how they begin, how many they are, and that a reader finds in them what the report says.
use Rattle.std.proofs.Common.{ℕ, ◌+◌, ◌*◌, ◌≡◌, refl, ap, ◌∙◌, List, ◌++◌, arith, length, drop}
use Rattle.table.specs.Words.{u16_at, words}
use Rattle.table.specs.Encoding.{u16, u32, record_of, encode_numbers}
use Rattle.table.proofs.Sizes.{length_numbers, length-record}
use Rattle.table.proofs.Standing.{past, u16_read, u32_read, numbers_read}
use Rattle.table.proofs.RecordsRead.{record_read}
use Rattle.report.specs.Report.{report_body, report_bytes, status_at, count_at, named_at, numbers_at}
use Rattle.report.specs.Written.{head_bytes}

-- the head has 12 bytes
pub head_length : (kind status count k : ℕ) → length (head_bytes kind status count k) ≡ 12
unfolding head_bytes u32 u16
head_length kind status count k = refl

module _ (kind status count : ℕ) (numbers : List ℕ) where
  -- L = 8 + 2k
  pub body_length : length (report_body status count numbers) ≡ 8 + 2 * length numbers
  unfolding report_body u32 u16
  body_length = let size = length_numbers numbers in omega arith

  -- a report of k requests has 12 + 2k bytes
  pub report_length : length (report_bytes kind status count numbers) ≡ 12 + 2 * length numbers
  unfolding report_bytes
  report_length = let size = length-record kind (report_body status count numbers) in omega (arith, body_length)

  -- its first 12 bytes, and then the numbers
  pub report_headed : report_bytes kind status count numbers ≡ head_bytes kind status count (length numbers) ++ encode_numbers numbers
  unfolding report_bytes record_of head_bytes report_body u32 u16
  report_headed = ap (λ (size : ℕ). u16 size ++ u16 kind ++ report_body status count numbers) body_length

-- what a reader finds where a report begins
pub record ReportRead (buffer : List ℕ) (start kind status count : ℕ) (numbers : List ℕ) : Type 0 where
  pub length_read : u16_at buffer start ≡ 8 + 2 * length numbers
  pub kind_read : u16_at buffer (start + 2) ≡ kind
  pub status_read : status_at buffer start ≡ status
  pub count_read : count_at buffer start ≡ count
  pub named_read : named_at buffer start ≡ length numbers
  pub numbers_are : numbers_at buffer start ≡ numbers

-- a report that stands at a place of a buffer is read as it was written
pub report_read :
    (buffer : List ℕ) (start kind status count : ℕ) (numbers rest : List ℕ) →
    drop start buffer ≡ report_bytes kind status count numbers ++ rest →
    ReportRead buffer start kind status count numbers
unfolding report_bytes report_body u32 u16
report_read buffer start kind status count numbers rest h =
    let headed = record_read buffer start kind (report_body status count numbers) rest h in
    let at-status = headed.body_read in
    let at_count = past buffer (start + 4) (u16 status) _ (start + 6) (omega arith) at-status in
    let at_named = past buffer (start + 6) (u32 count) _ (start + 10) (omega arith) at_count in
    let at-numbers = past buffer (start + 10) (u16 (length numbers)) _ (start + 12) (omega arith) at_named in
    let named = u16_read buffer (start + 10) (length numbers) _ at_named in
    record {
      length_read = headed.length_read ∙ body_length kind status count numbers;
      kind_read = headed.kind_read;
      status_read = u16_read buffer (start + 4) status _ at-status;
      count_read = u32_read buffer (start + 6) count _ at_count;
      named_read = named;
      numbers_are = ap (λ (k : ℕ). words k buffer (start + 12)) named ∙ numbers_read buffer numbers (start + 12) rest at-numbers;
    }
