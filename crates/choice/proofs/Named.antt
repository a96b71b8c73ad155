-- That a row names only variables that there are has one proof at most, so that it follows from what is known without its witness.
use Rattle.std.proofs.Common.{ℕ}
use Rattle.std.proofs.Props.{props}
use Rattle.table.specs.Rows.{Row, clause, linear}
use Rattle.meaning.specs.WholeRows.{RowNamed}

pub named_once : (variables : ℕ) (row : Row) → IsProp (RowNamed variables row)
unfolding RowNamed
named_once variables (clause role literals) = Prim.hlevel props
named_once variables (linear role bound row_terms) = Prim.hlevel props
