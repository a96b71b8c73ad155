-- The lengths of rows: what a right one is enough for, and which are right.
use Rattle.std.proofs.Common.{◌≡◌, ℕ, ◌%◌, ◌≤◌, true, arith, leb-true, le-leb, eq-eqb}
use Rattle.table.specs.Kinds.{Kind, Head, Clause, Linear, Order, Check, Unknown, is_row}
use Rattle.table.specs.Tests.{length_right}
use Rattle.table.specs.RowParts.{least_length}
use Rattle.table.proofs.Steps.{both}

-- a row of a right length has its role, and a LINEAR its bound
pub long_enough : (kind : Kind) (n l : ℕ) → is_row kind ≡ true → length_right kind n l ≡ true → least_length kind ≤ l
unfolding is_row length_right least_length
long_enough Head n l r e = absurd cc
long_enough Clause n l r e = leb-true 2 l (both _ _ (both _ _ e).0).0
long_enough Linear n l r e = leb-true 6 l (both _ _ (both _ _ e).0).0
long_enough Order n l r e = absurd cc
long_enough Check n l r e = absurd cc
long_enough Unknown n l r e = absurd cc

-- every row has a role
pub least_two : (kind : Kind) → 2 ≤ least_length kind
unfolding least_length
least_two Head = omega arith
least_two Clause = omega arith
least_two Linear = omega arith
least_two Order = omega arith
least_two Check = omega arith
least_two Unknown = omega arith

-- a length is right where it is in range and has whole parts
pub clause_right : (n l : ℕ) → 2 ≤ l → l ≤ 130 → l % 2 ≡ 0 → length_right Clause n l ≡ true
unfolding length_right
clause_right n l h g e = rw (le-leb 2 l h, le-leb l 130 g, eq-eqb (l % 2) 0 e)

pub linear_right : (n l : ℕ) → 6 ≤ l → l ≤ 126 → l % 6 ≡ 0 → length_right Linear n l ≡ true
unfolding length_right
linear_right n l h g e = rw (le-leb 6 l h, le-leb l 126 g, eq-eqb (l % 6) 0 e)
