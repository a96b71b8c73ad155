-- The rows of a table as the code holds them: their literals and terms are parts of the table's bytes.
use Rattle.std.specs.Prelude.{ℕ, ◌≤◌, List, length, map}
use Rattle.table.specs.declared.rows.Row.{Row as HeldRow}
use Rattle.table.specs.declared.rows.Row.TheVariants.{Clause as HeldClause, Linear as HeldLinear}
use Rattle.table.specs.Kinds.{Kind, Head, Clause, Linear, Order, Check, Unknown}
use Rattle.table.specs.Words.{word_in}
use Rattle.table.specs.Rows.{Row, clause, linear, term_in, kind_at, length_at, after}

-- the row that is meant by it
unfoldable pub meant : HeldRow → Row
meant (HeldClause role literals) = clause role (map word_in literals.now)
meant (HeldLinear role bound row_terms) = linear role bound (map term_in row_terms.now)

-- the bytes of a row's body that every row of its kind has: the role, and a bound
unfoldable pub least_length : Kind → ℕ
least_length Linear = 6
least_length Head = 2
least_length Clause = 2
least_length Order = 2
least_length Check = 2
least_length Unknown = 2

-- the row at a place is whole, and not too short for its kind
pub record RowWhole (t : List ℕ) (at : ℕ) : Type 0 where
  pub whole : after t at ≤ length t
  pub long : least_length (kind_at t at) ≤ length_at t at
