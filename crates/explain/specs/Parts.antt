-- What working a part of the requests in place must give: the part's definition in the crate `preference`.
use Rattle.std.specs.Prelude.{ℕ, ◌+◌, ◌-◌, ◌/◌, ◌*◌, ◌<◌, ◌≤◌, ◌≡◌, Bool, true, false, ◌&&◌, ◌++◌, length, set}
use Rattle.preference.specs.Selection.{Selection, all, none}
use Rattle.preference.specs.Question.{Question}
use Rattle.preference.specs.Part.{Part}
use Rattle.preference.specs.Cut.{middle}
use Rattle.preference.specs.Halving.{halve_conflict, halve_relax}
use Rattle.explain.specs.declared.span.Span.{Span}

-- the two halves of a part
pub record Halved (from count : ℕ) (first second : Span) : Type 0 where
  pub first_is : first ≡ record { from = from; count = count / 2 }
  pub second_is : second ≡ record { from = from + count / 2; count = count - count / 2 }

-- a part of a conflict: all before it are in the ground, it is not, and of those after it the ground has what S keeps
pub record InGround (from count : ℕ) (X : Selection) : Type 0 where
  pub some : 0 < count
  pub S : Selection
  pub ground : X ≡ all from ++ (none count ++ S)

-- what a part that is worked leaves: the flags, how many requests matter, and how many questions were asked
pub record Leaves (p : Part) (X : Selection) (exit : Selection) (found asked : ℕ) : Type 0 where
  pub set : exit ≡ X
  pub found_is : found ≡ p.found
  pub asked_is : asked ≡ p.asked

-- the conflict's part is worked as halving does
abbrev pub ConflictWorked : Question → ℕ → ℕ → Bool → Selection → Selection → ℕ → ℕ → Type 0
ConflictWorked ok from count asking entry exit found asked =
    (S : Selection) →
    entry ≡ all from ++ (none count ++ S) →
    Leaves (halve_conflict ok (middle count) from asking S) (all from ++ (halve_conflict ok (middle count) from asking S).set) exit found asked

-- a part of a relaxation: P is decided, and neither the part nor the `after` requests behind it are in the ground
pub record OutOfGround (from count : ℕ) (X : Selection) : Type 0 where
  pub some : 0 < count
  pub P : Selection
  pub after : ℕ
  pub long : length P ≡ from
  pub ground : X ≡ P ++ (none count ++ none after)

-- the relaxation's part is worked as halving does
abbrev pub RelaxationWorked : Question → ℕ → ℕ → Bool → Selection → Selection → ℕ → ℕ → Type 0
RelaxationWorked ok from count asking entry exit found asked =
    (P : Selection) (after : ℕ) →
    length P ≡ from →
    entry ≡ P ++ (none count ++ none after) →
    Leaves (halve_relax ok (middle count) P after asking) ((halve_relax ok (middle count) P after asking).set ++ none after) exit found asked

-- the answer to a question that may not have been asked, and the flags that go with it
pub record Tried (answer asking : Bool) (whole without exit : Selection) (told : Bool) : Type 0 where
  pub told_is : told ≡ (asking && answer)
  pub kept : told ≡ true → exit ≡ whole
  pub left_out : told ≡ false → exit ≡ without

-- a part is tried whole where that is asked: it is kept where it stands, and left out otherwise
abbrev pub WholeTried : Question → ℕ → ℕ → Bool → Selection → Selection → Bool → Type 0
WholeTried ok from count asking entry exit told =
    (P : Selection) (after : ℕ) →
    length P ≡ from →
    entry ≡ P ++ (none count ++ none after) →
    Tried (ok (P ++ (all count ++ none after))) asking (P ++ (all count ++ none after)) (P ++ (none count ++ none after)) exit told

-- the flags once the question was asked with the flag of a place at a value, and the answer stands there instead
abbrev pub tried_at : Question → ℕ → Bool → Selection → Selection
tried_at ok place value X = set (set X place value) place (ok (set X place value))

-- what a method that has worked all the requests tells: the set in the flags, and the number of questions, which is at most two a request
pub record Worked (p : Part) (exit : Selection) (asked : ℕ) : Type 0 where
  pub set : exit ≡ p.set
  pub asked_is : asked ≡ p.asked
  pub few : asked ≤ 2 * length exit
