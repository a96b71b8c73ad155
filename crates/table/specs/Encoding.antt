-- The bytes of a model (document 01, "Table bytes"): what a writer of tables writes, said without tests and places.
-- A table is a run of records; all numbers are little-endian.
use Rattle.std.specs.Prelude.{◌≡◌, ℕ, ◌+◌, ◌-◌, ◌*◌, ◌/◌, ◌%◌, ◌<◌, ◌≤◌, List, [], ◌∷◌, ◌++◌, length, ℤ}
use Rattle.std.specs.Int.{w32}
use Rattle.std.proofs.Common.{of_z}
use Rattle.table.specs.declared.record.Frame.{Frame}
use Rattle.table.specs.Rows.{Term, Row, clause, linear}
use Rattle.table.specs.Kept.{rows_of, order_of}
use Rattle.table.specs.Model.{Model, Each, WithinLimits}

-- a byte is below 256
abbrev pub IsByte : ℕ → Type 0
IsByte n = n < 256

-- a list of bytes, as every slice of u8 is
abbrev pub IsBytes : List ℕ → Type 0
IsBytes t = Each IsByte t

-- a u16, little-endian
unfoldable pub u16 : ℕ → List ℕ
u16 n = n % 256 ∷ n / 256 ∷ []

-- a u32, little-endian: the low word first
unfoldable pub u32 : ℕ → List ℕ
u32 n = u16 (n % 65536) ++ u16 (n / 65536)

-- an i32: its 32 bits in two's complement
unfoldable pub i32 : ℤ → List ℕ
i32 z = u32 (of_z w32 z)

-- a record: u16 L, the body length; u16 kind; L bytes of body
unfoldable pub record_of : ℕ → List ℕ → List ℕ
record_of kind body = u16 (length body) ++ u16 kind ++ body

-- numbers of u16, one after another
unfoldable pub encode_numbers : List ℕ → List ℕ
encode_numbers [] = []
encode_numbers (n ∷ ns) = u16 n ++ encode_numbers ns

-- a term: u16 variable and i32 weight
unfoldable pub encode_term : Term → List ℕ
encode_term term = u16 term.variable ++ i32 term.weight

-- terms, one after another
unfoldable pub encode_terms : List Term → List ℕ
encode_terms [] = []
encode_terms (term ∷ row_terms) = encode_term term ++ encode_terms row_terms

-- a row: 2 CLAUSE is u16 role, then literals of u16; 3 LINEAR is u16 role, i32 bound, then terms
unfoldable pub encode_row : Row → List ℕ
encode_row (clause role literals) = record_of 2 (u16 role ++ encode_numbers literals)
encode_row (linear role bound row_terms) = record_of 3 (u16 role ++ i32 bound ++ encode_terms row_terms)

-- rows, one after another
unfoldable pub encode_rows : List Row → List ℕ
encode_rows [] = []
encode_rows (row ∷ rows) = encode_row row ++ encode_rows rows

-- 1 HEAD: u16 V, variables; u16 N, requests
unfoldable pub encode_head : ℕ → ℕ → List ℕ
encode_head variables requests = record_of 1 (u16 variables ++ u16 requests)

-- 4 ORDER: request numbers of u16, most important first
unfoldable pub encode_order : List ℕ → List ℕ
encode_order order = record_of 4 (encode_numbers order)

-- HEAD comes first, then rows, then ORDER
unfoldable pub before_check : Model → List ℕ
before_check m = encode_head m.variables m.requests ++ encode_rows m.rows ++ encode_order m.order

-- what the u16 words of some bytes add up to
unfoldable pub sum_of_words : List ℕ → ℕ
sum_of_words [] = 0
sum_of_words (low ∷ []) = low
sum_of_words (low ∷ high ∷ bytes) = low + 256 * high + sum_of_words bytes

-- the word that makes a sum zero with carries past 16 bits thrown away
unfoldable pub check_word : ℕ → ℕ
check_word sum = (65536 - sum % 65536) % 65536

-- 5 CHECK: u16 word, after words of that sum; CHECK's own length 2 and kind 5 are words of the table too
unfoldable pub encode_check : ℕ → List ℕ
encode_check sum = record_of 5 (u16 (check_word (sum + 2 + 5)))

-- some records and the CHECK that seals them
unfoldable pub sealed : List ℕ → List ℕ
sealed records = records ++ encode_check (sum_of_words records)

-- the table of a model
unfoldable pub encode : Model → List ℕ
encode m = sealed (before_check m)

-- the frame that the reading of that table tells: HEAD has eight bytes, and ORDER stands after the rows
unfoldable pub frame_of : Model → Frame
frame_of m =
    record {
      variables = m.variables;
      requests = m.requests;
      rows = length m.rows;
      order = 8 + length (encode_rows m.rows);
    }

-- what a table with this frame says
unfoldable pub model_of : List ℕ → Frame → Model
model_of t f = record { variables = f.variables; requests = f.requests; rows = rows_of t f; order = order_of t f }

-- a table stands for a model: the model is within the limits, the table is its encoding, and it has at most 32,768 bytes
pub record StandsFor (t : List ℕ) (m : Model) : Type 0 where
  pub within : WithinLimits m
  pub encoded : encode m ≡ t
  pub short : length t ≤ 32768
