-- What a half-made setting tells about a row: whether some completion may meet it, and whether every completion must. A completion is a
-- setting that has the decided values.
use Rattle.std.specs.Prelude.{ℕ, ◌*◌, ◌/◌, ◌%◌, ◌≤◌, ◌≡◌, Bool, cond, not, ◌&&◌, ◌||◌, List, [], ◌∷◌, length, eqb, unsigned_abs, ℤ, pos, negsuc, ◌+ℤ◌}
use Rattle.std.specs.Int.Signed.{le_z}
use Rattle.table.specs.declared.terms.Term.{Term}
use Rattle.table.specs.Rows.{Row, clause, linear}
pub use Rattle.meaning.specs.declared.state.State.{State}
pub use Rattle.meaning.specs.declared.state.State.TheVariants.{Met, Open, Fails}
use Rattle.meaning.specs.Meaning.{any_of}
use Rattle.meaning.specs.HalfMade.{Values, is_free, is_set}

-- the literal is true by its variable's decided value
abbrev pub is_decided_true : Values → ℕ → Bool
is_decided_true values literal = cond (eqb (literal % 2) 0) (is_set values (literal / 2)) (not (is_set values (literal / 2)))

-- the literal may be true: its variable is free, or it is true
unfoldable pub may_be_true : Values → ℕ → Bool
may_be_true values literal = is_free values (literal / 2) || is_decided_true values literal

-- the literal must be true: its variable is decided, and it is true
unfoldable pub must_be_true : Values → ℕ → Bool
must_be_true values literal = not (is_free values (literal / 2)) && is_decided_true values literal

-- a whole number where it lies below 0, else 0; and the other way round
unfoldable pub negative_of : ℤ → ℤ
negative_of (pos n) = pos 0
negative_of (negsuc n) = negsuc n

unfoldable pub positive_of : ℤ → ℤ
positive_of (pos n) = pos n
positive_of (negsuc n) = pos 0

-- what a term comes to at the one end: with its variable free that side of the weight, else weight times value
unfoldable pub at_end : (ℤ → ℤ) → Values → Term → ℤ
at_end side values term =
    cond (is_free values term.variable) (side term.weight) (cond (is_set values term.variable) term.weight (pos 0))

-- what the terms add up to at that end: with negative_of the least sum, with positive_of the most
unfoldable pub sum_at_end : (ℤ → ℤ) → Values → List Term → ℤ
sum_at_end side values [] = pos 0
sum_at_end side values (term ∷ more) = at_end side values term +ℤ sum_at_end side values more

-- the state of what may and what must hold: met where it must, failing where it cannot, and else open
abbrev pub state_of : Bool → Bool → State
state_of may must = cond must Met (cond may Open Fails)

-- the state of a literal
unfoldable pub literal_state : Values → ℕ → State
literal_state values literal = state_of (may_be_true values literal) (must_be_true values literal)

-- a clause may hold where some literal may be true, and must where some literal must be
unfoldable pub clause_state : Values → List ℕ → State
clause_state values literals = state_of (any_of (may_be_true values) literals) (any_of (must_be_true values) literals)

-- a linear row may hold where the least sum is at most the bound, and must where the most is
unfoldable pub linear_state : Values → ℤ → List Term → State
linear_state values bound row_terms = state_of (le_z (sum_at_end negative_of values row_terms) bound) (le_z (sum_at_end positive_of values row_terms) bound)

-- the state of a row
unfoldable pub row_state : Values → Row → State
row_state values (clause role literals) = clause_state values literals
row_state values (linear role bound row_terms) = linear_state values bound row_terms

-- both ends of what some terms can add up to are told, and lie no farther from 0 than so many i32 weights can bring them
pub record EndsTold (values : Values) (row_terms : List Term) (least most : ℤ) : Type 0 where
  pub least_told : least ≡ sum_at_end negative_of values row_terms
  pub most_told : most ≡ sum_at_end positive_of values row_terms
  pub small : (unsigned_abs least ≤ 2147483648 * length row_terms) × (unsigned_abs most ≤ 2147483648 * length row_terms)
