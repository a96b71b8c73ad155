-- What the search finds out about a half-made setting: whether some completion, a setting with the decided values, passes a test.
use Rattle.std.specs.Prelude.{ℕ, ◌≡◌, Bool, true, false, List, All}
use Rattle.table.specs.declared.record.Frame.{Frame}
use Rattle.table.specs.Rows.{row_at}
use Rattle.table.specs.Kept.{rows_of}
use Rattle.meaning.specs.Meaning.{Setting, meets, meets_all}
use Rattle.meaning.specs.Stands.{by_role}
use Rattle.meaning.specs.HalfMade.{Values, Agrees}

-- a completion that passes
pub record Completion (Passes : Setting → Type 0) (values : Values) : Type 0 where
  pub setting : Setting
  pub agrees : Agrees values setting
  pub passes : Passes setting

-- the answer says whether there is one
pub record Completed (Passes : Setting → Type 0) (values : Values) (answer : Bool) : Type 0 where
  pub found : answer ≡ true → Completion Passes values
  pub none : answer ≡ false → Completion Passes values → ⊥

-- the setting meets all rows of a table that count in a selection
abbrev pub MeetsCounting : List ℕ → Frame → List Bool → Setting → Type 0
MeetsCounting t f chosen setting = meets_all (by_role chosen) setting (rows_of t f) ≡ true

-- the setting meets the row at a place of the table
abbrev pub MeetsAt : List ℕ → Setting → ℕ → Type 0
MeetsAt t setting place = meets setting (row_at t place) ≡ true

-- the setting meets the rows at the places of a list
pub record MeetsEach (t places : List ℕ) (setting : Setting) : Type 0 where
  pub each : All (MeetsAt t setting) places
