-- The bytes of a report (document 01, "The report": one record, headed as in a table).
use Rattle.std.specs.Prelude.{ℕ, ◌+◌, List, ◌++◌, length}
use Rattle.table.specs.Words.{u16_at, u32_at, words}
use Rattle.table.specs.Encoding.{u16, u32, record_of, encode_numbers}
use Rattle.report.specs.declared.Kind.{Kind}
use Rattle.report.specs.declared.Kind.TheVariants.{Conflict, Relaxation}

-- kind 16 for a conflict, 17 for a relaxation
abbrev pub conflict_kind : ℕ
conflict_kind = 16

abbrev pub relaxation_kind : ℕ
relaxation_kind = 17

-- the number of a kind
abbrev pub number_of : Kind → ℕ
number_of Conflict = conflict_kind
number_of Relaxation = relaxation_kind

-- the body: u16 status, u32 count, u16 k, k request numbers
unfoldable pub report_body : (status count : ℕ) (numbers : List ℕ) → List ℕ
report_body status count numbers = u16 status ++ u32 count ++ u16 (length numbers) ++ encode_numbers numbers

-- the whole record
unfoldable pub report_bytes : (kind status count : ℕ) (numbers : List ℕ) → List ℕ
report_bytes kind status count numbers = record_of kind (report_body status count numbers)

-- what stands in the report that begins at a place of a buffer: its status, its count, how many requests it names, and their numbers
abbrev pub status_at : List ℕ → ℕ → ℕ
status_at buffer start = u16_at buffer (start + 4)

abbrev pub count_at : List ℕ → ℕ → ℕ
count_at buffer start = u32_at buffer (start + 6)

abbrev pub named_at : List ℕ → ℕ → ℕ
named_at buffer start = u16_at buffer (start + 10)

abbrev pub numbers_at : List ℕ → ℕ → List ℕ
numbers_at buffer start = words (named_at buffer start) buffer (start + 12)
