-- The rows of a table, by their places in its bytes.
use Rattle.std.specs.Prelude.{ℕ, zero, suc, List, [], ◌∷◌}
use Rattle.table.specs.declared.record.Frame.{Frame}
use Rattle.table.specs.Rows.{after}
use Rattle.table.specs.Kept.{RowsKept}

-- the places of the m rows from a place on
unfoldable pub row_places : ℕ → List ℕ → ℕ → List ℕ
row_places zero t at = []
row_places (suc m) t at = at ∷ row_places m t (after t at)

-- so many rows are left from a place on, each whole and in range
pub record RowsLeft (f : Frame) (t : List ℕ) (left at : ℕ) : Type 0 where
  pub kept : RowsKept f.variables f.requests t left at f.order
