-- A lent selection (document 01, "Meaning": a selection is lent as a u64, request r at bit r-1).
use Rattle.std.specs.Prelude.{ℕ, zero, suc, ◌%◌, ◌/◌, Bool, true, not, List, [], ◌∷◌, eqb}
use Rattle.table.specs.declared.record.Frame.{Frame}
use Rattle.table.specs.Kept.{rows_of}
use Rattle.meaning.specs.Meaning.{Setting}
use Rattle.meaning.specs.Stands.{stands, Meeting, by_role}

-- the first n bits of a number, the lowest first
unfoldable pub bits : ℕ → ℕ → List Bool
bits zero number = []
bits (suc n) number = eqb (number % 2) 1 ∷ bits n (number / 2)

-- what is left of a number above its first n bits
unfoldable pub above : ℕ → ℕ → ℕ
above zero number = number
above (suc n) number = above n (number / 2)

-- the selection names a request above n (refusal 11)
unfoldable pub names_above : ℕ → ℕ → Bool
names_above n selection = not (eqb (above n selection) 0)

-- which requests a selection of n requests names, by request number; the host, 0, is always in it
abbrev pub selection_of : ℕ → ℕ → ℕ → Bool
selection_of n selection = by_role (true ∷ bits n selection)

-- "It can stand if some setting meets all host rows and all rows of the selected requests": so the public question promises it
abbrev pub SomeSettingMeets : List ℕ → Frame → ℕ → Type 0
SomeSettingMeets t f selection = (setting : Setting) × Meeting (rows_of t f) f.variables (selection_of f.requests selection) setting

-- the selection can stand, as a test over all settings; that the two are the same is proved (`TheSetsAreRight`)
unfoldable pub can_stand : List ℕ → Frame → ℕ → Bool
can_stand t f selection = stands (rows_of t f) f.variables (selection_of f.requests selection)
