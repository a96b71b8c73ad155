-- Half-made settings: the value of each variable that is decided, and none for one that is not.
use Rattle.std.specs.Prelude.{ℕ, ◌+◌, ◌≡◌, Bool, false, List, [], ◌∷◌, length, get_or, Option, Some, is_none, unwrap_or}
use Rattle.meaning.specs.Meaning.{Setting, value_of}

-- a half-made setting, variable 0 first
abbrev pub Values : Type 0
Values = List (Option Bool)

-- the variable is not decided
abbrev pub is_free : Values → ℕ → Bool
is_free values variable = is_none (get_or values variable (Some false))

-- the variable is decided, and 1
abbrev pub is_set : Values → ℕ → Bool
is_set values variable = unwrap_or (get_or values variable (Some false)) false

-- the setting has a value for each variable, and the decided ones
pub record Agrees (values : Values) (setting : Setting) : Type 0 where
  pub each : length setting ≡ length values
  pub decided : (variable : ℕ) → is_free values variable ≡ false → get_or setting variable false ≡ is_set values variable

-- how many variables are not decided
unfoldable pub undecided : Values → ℕ
undecided [] = 0
undecided (value ∷ more) = value_of (is_none value) + undecided more
