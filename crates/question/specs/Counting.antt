-- The rows that count in a question, by their places in the table: the search reads no others.
use Rattle.std.specs.Prelude.{ℕ, ◌≤◌, ◌≡◌, Bool, List, length, take, filter}
use Rattle.table.specs.Rows.{row_at}
use Rattle.table.specs.Kept.{first_row}
use Rattle.meaning.specs.Meaning.{role_of, counts}
use Rattle.question.specs.RowPlaces.{row_places}

-- of some places, those of rows that count
abbrev pub counting_places : (ℕ → Bool) → List ℕ → List ℕ → List ℕ
counting_places chosen t places = filter (λ place. counts chosen (role_of (row_at t place))) places

-- a lent list after the walk over the table's m rows: the places of those that count, so many, stand in front
pub record Noted (chosen : ℕ → Bool) (m : ℕ) (t places : List ℕ) (noted : ℕ) : Type 0 where
  pub few : noted ≤ length places
  pub places_noted : take noted places ≡ counting_places chosen t (row_places m t first_row)
