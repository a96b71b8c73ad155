-- What a look at a half-made setting tells of the rows at the places of a list.
use Rattle.std.specs.Prelude.{ℕ, ◌<◌, List, IsPermutation}
use Rattle.meaning.specs.HalfMade.{Values}
use Rattle.choice.specs.Chosen.{Undecided}
use Rattle.choice.specs.declared.choosing.Decision.{Decision}
use Rattle.question.specs.declared.looking.Seen.{Seen}
use Rattle.question.specs.declared.looking.Seen.TheVariants.{Fails, Met, Open}
use Rattle.question.specs.Completing.{Completion, MeetsEach}
use Rattle.question.specs.Narrowing.{OpenInFront}

-- a decision: the variable is not decided yet, the rows that are left open stand in front, and every completion meets the others
pub record LeftOpen (t : List ℕ) (values : Values) (after : List ℕ) (decision : Decision) (left : ℕ) : Type 0 where
  pub undecided : Undecided values decision.variable
  pub some : 0 < left
  pub in_front : OpenInFront t values after left

-- what is seen: no completion meets all rows, some completion does, or rows are left open
abbrev pub Tells : List ℕ → Values → List ℕ → List ℕ → Seen → Type 0
Tells t values before after Fails = Completion (MeetsEach t before) values → ⊥
Tells t values before after Met = Completion (MeetsEach t before) values
Tells t values before after (Open decision left) = LeftOpen t values after decision left

-- and the rows are only rearranged
pub record Looked (t : List ℕ) (values : Values) (before after : List ℕ) (seen : Seen) : Type 0 where
  pub rearranged : IsPermutation before after
  pub tells : Tells t values before after seen
