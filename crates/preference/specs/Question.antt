-- The question "can this selection stand?", whatever answers it, and what it makes of a selection.
use Rattle.std.specs.Prelude.{◌≡◌, Bool, true, false, ℕ, length}
use Rattle.preference.specs.Selection.{Selection, ◌⊆◌}

-- The answer to each selection: true where it can stand. The host's rows, the background, are part of the question.
abbrev pub Question : Type 0
Question = Selection → Bool

-- Document 004, "a monotonic satisfiability property": what stands with more requests stands with fewer.
abbrev pub Monotone : Question → ℕ → Type 0
Monotone ok n = (X Y : Selection) → length Y ≡ n → X ⊆ Y → ok Y ≡ true → ok X ≡ true

-- Two questions that agree on every selection of n requests, as demand 3 supposes them.
abbrev pub Agree : ℕ → Question → Question → Type 0
Agree n ok other = (X : Selection) → length X ≡ n → ok X ≡ other X

-- Document 004, Definition 1: a relaxation is a selection of the n requests that can stand.
pub record Relaxation (ok : Question) (n : ℕ) (X : Selection) : Type 0 where
  pub over : length X ≡ n
  pub stands : ok X ≡ true

-- Document 004, Definition 2: a conflict is a selection of the n requests that cannot stand.
pub record Conflict (ok : Question) (n : ℕ) (X : Selection) : Type 0 where
  pub over : length X ≡ n
  pub fails : ok X ≡ false
