-- The question of a table is monotone: what stands with more requests stands with fewer.
use Rattle.std.proofs.Common.{ℕ, ◌≡◌, refl, Bool, true, false, ◌||◌, List, [], ◌∷◌, eqb}
use Rattle.table.specs.declared.record.Frame.{Frame}
use Rattle.table.specs.Lists.{among}
use Rattle.table.specs.Kept.{rows_of}
use Rattle.meaning.proofs.Choices.{fewer_stand}
use Rattle.preference.specs.Selection.{Selection, ◌⊆◌, ends, same, more}
use Rattle.preference.specs.Question.{Monotone}
use Rattle.preference.specs.Named.{named}
use Rattle.explain.specs.Asking.{chosen_by, question_of}

-- a test more in front changes nothing of what follows
or_more : (first before after : Bool) → (before ≡ true → after ≡ true) → (first || before) ≡ true → (first || after) ≡ true
or_more true before after h e = refl
or_more false before after h e = h e

-- and may pass where nothing passed before
or_later : (first before after : Bool) → (before ≡ true → after ≡ true) → before ≡ true → (first || after) ≡ true
or_later true before after h e = refl
or_later false before after h e = h e

-- a request that is among the named of a selection is among those of a larger one
pub named_in_more : (role : ℕ) (order : List ℕ) {X Y : Selection} → X ⊆ Y → among role (named order X) ≡ true → among role (named order Y) ≡ true
unfolding named
named_in_more role [] s e = e
named_in_more role (request ∷ order) ends e = e
named_in_more role (request ∷ order) (same {b = true} {X = X} {Y = Y} s) e =
    or_more (eqb role request) (among role (named order X)) (among role (named order Y)) (named_in_more role order s) e
named_in_more role (request ∷ order) (same {b = false} s) e = named_in_more role order s e
named_in_more role (request ∷ order) (more {X = X} {Y = Y} s) e =
    or_later (eqb role request) (among role (named order X)) (among role (named order Y)) (named_in_more role order s) e

-- the question of a table and an order is monotone
pub question_is_monotone : (t : List ℕ) (f : Frame) (order : List ℕ) (n : ℕ) → Monotone (question_of t f order) n
unfolding question_of chosen_by
question_is_monotone t f order n X Y long s e =
    fewer_stand (rows_of t f) f.variables (chosen_by order X) (chosen_by order Y) (λ role. named_in_more role order s) e
