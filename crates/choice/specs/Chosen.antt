-- What is promised of a choice: the variable is not decided, or all are. Which of them it is costs time at most.
use Rattle.std.specs.Prelude.{◌≡◌, ℕ, ◌<◌, Option, MatchOption, true, false, length}
use Rattle.meaning.specs.HalfMade.{Values, is_free}

-- there is such a variable, and it is not decided
pub record Undecided (values : Values) (variable : ℕ) : Type 0 where
  pub inside : variable < length values
  pub free : is_free values variable ≡ true

-- all variables below `end` are decided
pub record AllDecided (values : Values) (end : ℕ) : Type 0 where
  pub each : (variable : ℕ) → variable < end → is_free values variable ≡ false

-- a variable that is not decided; or none, where all below `end` are
abbrev pub Chosen : Values → ℕ → Option ℕ → Type 0
Chosen values end choice = MatchOption choice (AllDecided values end) (Undecided values)
