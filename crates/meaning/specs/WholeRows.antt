-- What the code must know of a row before it asks for its state: it names only variables that there are; and of a row's place in the table: a
-- whole row stands there.
use Rattle.std.specs.Prelude.{ℕ, ◌*◌, ◌<◌, ◌≤◌, ◌≡◌, true, List, length, get_or}
use Rattle.table.specs.Lists.{every}
use Rattle.table.specs.declared.terms.Term.{Term}
use Rattle.table.specs.Rows.{Row, clause, linear}
use Rattle.table.specs.Limits.{within, term_in_range}
use Rattle.table.specs.Kept.{RowKept}

-- each literal of a clause names one of the variables
pub record LiteralsNamed (variables : ℕ) (literals : List ℕ) : Type 0 where
  pub named : every (within 0 (2 * variables)) literals ≡ true

-- so do the terms of a linear row, which are few enough for their sum
pub record TermsNamed (variables : ℕ) (row_terms : List Term) : Type 0 where
  pub few : length row_terms < 65536
  pub named : every (term_in_range variables) row_terms ≡ true

-- the row names only variables that there are
unfoldable pub RowNamed : ℕ → Row → Type 0
RowNamed variables (clause role literals) = LiteralsNamed variables literals
RowNamed variables (linear role bound row_terms) = TermsNamed variables row_terms

-- the row at a place is whole, and in range for so many variables
pub record RowAsked (t : List ℕ) (at variables : ℕ) : Type 0 where
  pub requests : ℕ
  pub row_kept : RowKept variables requests t at

-- so are the rows at the first `count` places of a list
pub record RowsAsked (t places : List ℕ) (count variables : ℕ) : Type 0 where
  pub few : count ≤ length places
  pub each : (i : ℕ) → i < count → RowAsked t (get_or places i 0) variables
