-- The rows that a half-made setting leaves open, by their places in the front of a list.
use Rattle.std.specs.Prelude.{ℕ, ◌≤◌, ◌≡◌, List, length, Result, MatchResult, IfOk, IsPermutation}
use Rattle.std.specs.List.{AllWithin}
use Rattle.table.specs.Rows.{row_at}
use Rattle.meaning.specs.Meaning.{Setting}
use Rattle.meaning.specs.HalfMade.{Values, Agrees}
use Rattle.meaning.specs.declared.state.State.TheVariants.{Fails}
use Rattle.meaning.specs.States.{row_state}
use Rattle.question.specs.declared.narrowing.FailedRow.{FailedRow}
use Rattle.question.specs.Completing.{Completion, MeetsAt, MeetsEach}

-- every completion meets the row at a place
abbrev pub SurelyMet : List ℕ → Values → ℕ → Type 0
SurelyMet t values place = (setting : Setting) → Agrees values setting → MeetsAt t setting place

-- some completion may meet it
abbrev pub MayBeMet : List ℕ → Values → ℕ → Type 0
MayBeMet t values place = row_state values (row_at t place) ≡ Fails → ⊥

-- the rows at the first `left` places are still to be met, and every completion meets those at the others
pub record OpenInFront (t : List ℕ) (values : Values) (places : List ℕ) (left : ℕ) : Type 0 where
  pub few : left ≤ length places
  pub hold : AllWithin (SurelyMet t values) places left (length places)

-- the places are rearranged, and none is lost: so many rows stay open, or no completion meets all
pub record Reduced (t : List ℕ) (values : Values) (before after : List ℕ) (told : Result ℕ FailedRow) : Type 0 where
  pub rearranged : IsPermutation before after
  pub tells : MatchResult told (OpenInFront t values after) (λ _. Completion (MeetsEach t before) values → ⊥)

-- so that none of those that stay open is one that no completion meets
pub record Narrowed (t : List ℕ) (values : Values) (before after : List ℕ) (told : Result ℕ FailedRow) : Type 0 where
  pub reduced : Reduced t values before after told
  pub may_hold : IfOk told (λ left. AllWithin (MayBeMet t values) after 0 left)
