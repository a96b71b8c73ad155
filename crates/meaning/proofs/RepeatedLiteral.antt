-- A repeated literal changes nothing (document 01, "Meaning").
use Rattle.std.proofs.Common.{ℕ, ◌≡◌, refl, sym, ap, ◌∙◌, Bool, true, false, ◌||◌, List, [], ◌∷◌, ◌++◌, eqb, eqb-true}
use mathlib.Core.Bool.{or-true}
use Rattle.table.specs.Lists.{among}
use Rattle.table.specs.Rows.{clause}
use Rattle.meaning.specs.Meaning.{Setting, is_true, any_of, meets}

module _ (test : ℕ → Bool) (x : ℕ) where
  -- an element that fails the test may be left out
  failing_left_out : test x ≡ false → (front back : List ℕ) → any_of test (front ++ (x ∷ back)) ≡ any_of test (front ++ back)
  failing_left_out fails [] back = rw fails
  failing_left_out fails (first ∷ front) back = ap (λ (b : Bool). test first || b) (failing_left_out fails front back)

  -- one that passes makes some element pass, wherever it stands
  passing_among : test x ≡ true → (xs : List ℕ) → among x xs ≡ true → any_of test xs ≡ true
  passing_among passes [] h = h
  passing_among passes (first ∷ xs) h = by (eqb x first) refl (λ later. passing_among passes xs later)
    where
      by : (same : Bool) → eqb x first ≡ same → (among x xs ≡ true → any_of test xs ≡ true) → (test first || any_of test xs) ≡ true
      by true e later = rw (← eqb-true x first e, passes)
      by false e later = rw (later (rw e at h)) (or-true (test first))

  passing_stands : test x ≡ true → (front back : List ℕ) → any_of test (front ++ (x ∷ back)) ≡ true
  passing_stands passes [] back = rw passes
  passing_stands passes (first ∷ front) back = rw (passing_stands passes front back) (or-true (test first))

  -- so one that stands in the list a second time may be left out
  repeated_left_out : (front back : List ℕ) → among x (front ++ back) ≡ true → any_of test (front ++ (x ∷ back)) ≡ any_of test (front ++ back)
  repeated_left_out front back h = by (test x) refl
    where
      by : (passes : Bool) → test x ≡ passes → any_of test (front ++ (x ∷ back)) ≡ any_of test (front ++ back)
      by true e = passing_stands e front back ∙ sym (passing_among e (front ++ back) h)
      by false e = failing_left_out e front back

-- a clause in which a literal is repeated is met where it is met without the repetition
pub a_repeated_literal_changes_nothing :
    (setting : Setting) (role literal : ℕ) (front back : List ℕ) →
    among literal (front ++ back) ≡ true →
    meets setting (clause role (front ++ (literal ∷ back))) ≡ meets setting (clause role (front ++ back))
unfolding meets
a_repeated_literal_changes_nothing setting role literal front back h = repeated_left_out (is_true setting) literal front back h
