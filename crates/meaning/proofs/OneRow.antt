-- What an accepted table tells about one row: it stands whole, with a role in range, and names only variables that there are.
use Rattle.std.proofs.Common.{◌≡◌, false, sym, true≢false, ℕ, zero, suc, ◌+◌, ◌-◌, ◌/◌, ◌≤◌, true, leb, List, length, refl, ap, arith, leb-true}
use Rattle.table.specs.declared.kinds.Kind.{Kind}
use Rattle.table.specs.declared.kinds.Kind.TheVariants.{Head, Clause, Linear, Order, Check, Unknown}
use Rattle.table.specs.Kinds.{is_row}
use Rattle.table.specs.Words.{u16_at}
use Rattle.table.specs.Rows.{Row, clause, linear, terms, row_of, row_at, clause_at, linear_at, kind_at, length_at}
use Rattle.table.specs.Limits.{row_in_range}
use Rattle.table.specs.Tests.{length_right}
use Rattle.table.specs.Kept.{RowKept}
use Rattle.table.specs.RowParts.{RowWhole}
use Rattle.table.proofs.RowRule.{long_enough, least_two}
use Rattle.table.proofs.Steps.{both}
use Rattle.meaning.specs.Meaning.{role_of}
use Rattle.meaning.specs.WholeRows.{RowNamed, RowAsked, RowsAsked}

no_row : {X : Type 0} → false ≡ true → X
no_row e = absurd (true≢false (sym e))

-- a row's terms are as many as its length tells
length_terms : (k : ℕ) (t : List ℕ) (at : ℕ) → length (terms k t at) ≡ k
unfolding terms
length_terms zero t at = refl
length_terms (suc k) t at = ap suc (length_terms k t (at + 6))

-- a row in range has its role in range
role_in_range : (v n : ℕ) (row : Row) → row_in_range v n row ≡ true → role_of row ≤ n
unfolding row_in_range role_of
role_in_range v n (clause role literals) e = leb-true role n (both _ _ e).0
role_in_range v n (linear role bound row_terms) e = leb-true role n (both _ _ e).0

-- the role stands at one place in both kinds of rows
role_stands : (kind : Kind) (t : List ℕ) (at : ℕ) → role_of (row_of kind t at) ≡ u16_at t (at + 4)
unfolding role_of row_of clause_at linear_at
role_stands Head t at = refl
role_stands Clause t at = refl
role_stands Linear t at = refl
role_stands Order t at = refl
role_stands Check t at = refl
role_stands Unknown t at = refl

-- a row of a right length and in range names only variables that there are
named_by :
    (kind : Kind) (v n : ℕ) (t : List ℕ) (at : ℕ) →
    is_row kind ≡ true →
    length_right kind n (length_at t at) ≡ true →
    row_in_range v n (row_of kind t at) ≡ true →
    RowNamed v (row_of kind t at)
unfolding is_row length_right row_in_range row_of clause_at linear_at RowNamed
named_by Head v n t at row right range = no_row row
named_by Clause v n t at row right range = record { named = (both _ _ range).1 }
named_by Linear v n t at row right range =
    let most : length_at t at ≤ 126 = leb-true (length_at t at) 126 (both (leb 6 (length_at t at)) (leb (length_at t at) 126) (both _ _ right).0).1 in
    record { few = omega (arith, length_terms ((length_at t at - 6) / 6) t (at + 10)); named = (both _ _ range).1 }
named_by Order v n t at row right range = no_row row
named_by Check v n t at row right range = no_row row
named_by Unknown v n t at row right range = no_row row

module _ (v n : ℕ) (t : List ℕ) (at : ℕ) (kept : RowKept v n t at) where
  -- it stands whole in the table
  pub kept_whole : RowWhole t at
  kept_whole = record { whole = kept.whole; long = long_enough (kind_at t at) n (length_at t at) kept.row kept.right }

  -- it names only variables that there are
  pub kept_named : RowNamed v (row_at t at)
  kept_named = named_by (kind_at t at) v n t at kept.row kept.right kept.is_in_range

  -- it has its role, in range
  pub row_long : 2 ≤ length_at t at
  row_long = omega (arith, kept_whole.long, least_two (kind_at t at))

  pub role_at : role_of (row_at t at) ≡ u16_at t (at + 4)
  role_at = role_stands (kind_at t at) t at

  pub row_role : u16_at t (at + 4) ≤ n
  row_role = rw role_at at (role_in_range v n (row_at t at) kept.is_in_range)

-- so does a row that may be read
module _ (t : List ℕ) (at variables : ℕ) (asked : RowAsked t at variables) where
  pub asked_whole : RowWhole t at
  asked_whole = kept_whole variables asked.requests t at asked.row_kept

  pub asked_named : RowNamed variables (row_at t at)
  asked_named = kept_named variables asked.requests t at asked.row_kept

-- where more rows may be read, fewer may
pub asked_fewer : (t places : List ℕ) (few many variables : ℕ) → few ≤ many → RowsAsked t places many variables → RowsAsked t places few variables
asked_fewer t places few many variables h asked = record { few = omega (arith, asked.few); each = λ i below. asked.each i (omega arith) }
