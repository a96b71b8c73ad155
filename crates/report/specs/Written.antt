-- What `write` asks of its caller and what it leaves (document 01, "The report").
use Rattle.std.specs.Prelude.{ℕ, ◌+◌, ◌*◌, ◌≤◌, ◌≡◌, List, ◌++◌, length, drop}
use Rattle.std.proofs.lemmas.List.Edits.{sets}
use Rattle.table.specs.Encoding.{u16, u32, encode_numbers}
use Rattle.preference.specs.Selection.{Selection}
use Rattle.preference.specs.Named.{named}
use Rattle.report.specs.Report.{report_bytes}

-- How many request numbers a report can hold: with one more, L = 8 + 2k would not be a u16.
abbrev pub most_numbers : ℕ
most_numbers = 32763

-- There is room: 12 + 2N bytes for an order of N requests, whatever the answer is (document 01, "Misreadings to rule out").
pub record Room (part order : List ℕ) (flags : Selection) : Type 0 where
  pub paired : length flags ≡ length order
  pub enough : 12 + 2 * length order ≤ length part
  pub countable : length order ≤ most_numbers

-- The first 12 bytes of a report of k requests, as they are stored: L = 8 + 2k, kind, status, count and k.
unfoldable pub head_bytes : (kind status count k : ℕ) → List ℕ
head_bytes kind status count k = u16 (8 + 2 * k) ++ (u16 kind ++ (u16 status ++ (u32 count ++ u16 k)))

-- The numbers of a selection stand behind a report's first 12 bytes; so many are stored.
pub record NumbersWritten (order : List ℕ) (flags : Selection) (before after : List ℕ) (k : ℕ) : Type 0 where
  pub counted : k ≡ length (named order flags)
  pub few : k ≤ length order
  pub bytes : after ≡ sets before 12 (encode_numbers (named order flags))

-- The report of a selection stands at the part's start and ends at the place given back; the bytes after it are as they were.
pub record Written (kind status count : ℕ) (order : List ℕ) (flags : Selection) (before after : List ℕ) (end : ℕ) : Type 0 where
  pub ends : end ≡ 12 + 2 * length (named order flags)
  pub within : end ≤ 12 + 2 * length order
  pub bytes : after ≡ report_bytes kind status count (named order flags) ++ drop end before
