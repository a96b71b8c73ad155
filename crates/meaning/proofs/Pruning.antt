-- Why the state of a row loses no setting: no completion meets a row that fails, and every completion meets one that is met.
use Rattle.std.proofs.Common.{ℕ, ◌/◌, ◌%◌, ◌≡◌, refl, ap₂, Bool, true, false, not, cond, ◌&&◌}
use Rattle.std.proofs.Common.{◌||◌, List, [], ◌∷◌, arith, eqb, ℤ, pos, negsuc, ◌+ℤ◌, ◌*ℤ◌, le-leb}
use mathlib.Core.Bool.{false≢true}
use lib.IntN.{*ℤ-one, *ℤ-zero, one}
use lib.Signed.{le_z}
use Rattle.table.specs.declared.terms.Term.{Term}
use Rattle.table.specs.Rows.{Row, clause, linear}
use Rattle.meaning.specs.Meaning.{Setting, is_one, is_true, value_of, product, sum_of, meets}
use Rattle.meaning.specs.HalfMade.{Values, is_free, is_set, Agrees}
use Rattle.meaning.specs.States.{Met, Fails, may_be_true, must_be_true, negative_of, positive_of}
use Rattle.meaning.specs.States.{at_end, sum_at_end, clause_state, linear_state, row_state}
use Rattle.meaning.proofs.Differences.{same_le, le-le, sums-le}
use Rattle.meaning.proofs.Tested.{any_more}
use Rattle.meaning.proofs.States.{never_holds, always_holds, otherwise_holds}

-- a term comes to its weight or to nothing
product_is : (setting : Setting) (term : Term) → product setting term ≡ cond (is_one setting term.variable) term.weight (pos 0)
unfolding product value_of one
product_is setting term = go (is_one setting term.variable)
  where
    go : (value : Bool) → term.weight *ℤ pos (value_of value) ≡ cond value term.weight (pos 0)
    go true = *ℤ-one term.weight
    go false = *ℤ-zero term.weight

-- with its variable free, a term lies between these, whatever value the variable gets
free_least : (weight : ℤ) (value : Bool) → le_z (negative_of weight) (cond value weight (pos 0)) ≡ true
unfolding negative_of
free_least (pos n) true = le-leb 0 n (omega arith)
free_least (pos n) false = refl
free_least (negsuc n) true = same_le (negsuc n)
free_least (negsuc n) false = refl

free_most : (weight : ℤ) (value : Bool) → le_z (cond value weight (pos 0)) (positive_of weight) ≡ true
unfolding positive_of
free_most (pos n) true = same_le (pos n)
free_most (pos n) false = le-leb 0 n (omega arith)
free_most (negsuc n) true = refl
free_most (negsuc n) false = refl

-- the setting is a completion: it has the decided values
module _ (values : Values) (setting : Setting) (agrees : Agrees values setting) where
  true_may_be : (literal : ℕ) → is_true setting literal ≡ true → may_be_true values literal ≡ true
  unfolding may_be_true is_true
  true_may_be literal e = go (is_free values (literal / 2)) refl
    where
      go :
          (free : Bool) →
          is_free values (literal / 2) ≡ free →
          (free || cond (eqb (literal % 2) 0) (is_set values (literal / 2)) (not (is_set values (literal / 2)))) ≡ true
      go true p = refl
      go false p = rw (← agrees.decided (literal / 2) p) e

  must_be_true_lem : (literal : ℕ) → must_be_true values literal ≡ true → is_true setting literal ≡ true
  unfolding must_be_true is_true
  must_be_true_lem literal e = go (is_free values (literal / 2)) refl e
    where
      go :
          (free : Bool) →
          is_free values (literal / 2) ≡ free →
          (not free && cond (eqb (literal % 2) 0) (is_set values (literal / 2)) (not (is_set values (literal / 2)))) ≡ true →
          cond (eqb (literal % 2) 0) (is_one setting (literal / 2)) (not (is_one setting (literal / 2))) ≡ true
      go true p f = absurd (false≢true f)
      go false p f = rw (agrees.decided (literal / 2) p) f

  -- a term at one end, and the same term as the setting has it
  between :
      (side : ℤ → ℤ) (P : ℤ → ℤ → Type 0) →
      ((x : ℤ) → P x x) →
      ((weight : ℤ) (value : Bool) → P (side weight) (cond value weight (pos 0))) →
      (term : Term) →
      P (at_end side values term) (product setting term)
  unfolding at_end
  between side P same free term = rw (product_is setting term) (go (is_free values term.variable) refl)
    where
      go :
          (undecided : Bool) →
          is_free values term.variable ≡ undecided →
          P (cond undecided (side term.weight) (cond (is_set values term.variable) term.weight (pos 0)))
          (cond (is_one setting term.variable) term.weight (pos 0))
      go true p = free term.weight (is_one setting term.variable)
      go false p = rw (agrees.decided term.variable p) (same (cond (is_set values term.variable) term.weight (pos 0)))

  least_sum : (ts : List Term) → le_z (sum_at_end negative_of values ts) (sum_of setting ts) ≡ true
  unfolding sum_at_end sum_of
  least_sum [] = refl
  least_sum (term ∷ more) =
      sums-le (at_end negative_of values term) (product setting term) (sum_at_end negative_of values more) (sum_of setting more)
      (between negative_of (λ x y. le_z x y ≡ true) same_le free_least term)
      (least_sum more)

  most_sum : (ts : List Term) → le_z (sum_of setting ts) (sum_at_end positive_of values ts) ≡ true
  unfolding sum_at_end sum_of
  most_sum [] = refl
  most_sum (term ∷ more) =
      sums-le (product setting term) (at_end positive_of values term) (sum_of setting more) (sum_at_end positive_of values more)
      (between positive_of (λ x y. le_z y x ≡ true) same_le free_most term)
      (most_sum more)

  -- no completion meets a row that fails
  pub no_completion_meets : (row : Row) → Fails ≡ row_state values row → meets setting row ≡ true → ⊥
  unfolding row_state clause_state linear_state meets
  no_completion_meets (clause role literals) = never_holds _ _ _ (any_more (is_true setting) (may_be_true values) true_may_be literals)
  no_completion_meets (linear role bound ts) = never_holds _ _ _ (le-le (sum_at_end negative_of values ts) (sum_of setting ts) bound (least_sum ts))

  -- every completion meets a row that is met
  pub every_completion_meets : (row : Row) → Met ≡ row_state values row → meets setting row ≡ true
  unfolding row_state clause_state linear_state meets
  every_completion_meets (clause role literals) = always_holds _ _ _ (any_more (must_be_true values) (is_true setting) must_be_true_lem literals)
  every_completion_meets (linear role bound ts) = always_holds _ _ _ (le-le (sum_of setting ts) (sum_at_end positive_of values ts) bound (most_sum ts))

  -- with no variable free
  module _ (none : (variable : ℕ) → is_free values variable ≡ false) where
    may_be_true_lem : (literal : ℕ) → may_be_true values literal ≡ true → is_true setting literal ≡ true
    unfolding may_be_true is_true
    may_be_true_lem literal e = rw (agrees.decided (literal / 2) (none (literal / 2))) (rw (none (literal / 2)) at e)

    term_exact : (term : Term) → at_end negative_of values term ≡ product setting term
    unfolding at_end
    term_exact term = rw (none term.variable, product_is setting term, agrees.decided term.variable (none term.variable))

    sum_exact : (ts : List Term) → sum_at_end negative_of values ts ≡ sum_of setting ts
    unfolding sum_at_end sum_of
    sum_exact [] = refl
    sum_exact (term ∷ more) = ap₂ (λ (x y : ℤ). x +ℤ y) (term_exact term) (sum_exact more)

    -- the one completion meets every row that does not fail
    pub decided_meets : (row : Row) → (Fails ≡ row_state values row → ⊥) → meets setting row ≡ true
    unfolding row_state clause_state linear_state meets
    decided_meets (clause role literals) =
        otherwise_holds _ _ _ (any_more (may_be_true values) (is_true setting) may_be_true_lem literals)
        (any_more (must_be_true values) (is_true setting) must_be_true_lem literals)
    decided_meets (linear role bound ts) =
        otherwise_holds _ _ _ (λ e. rw (sum_exact ts) at e) (le-le (sum_of setting ts) (sum_at_end positive_of values ts) bound (most_sum ts))
