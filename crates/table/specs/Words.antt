-- The numbers that stand in a table's bytes (document 01, "Table bytes": all numbers are little-endian).
-- A place past the end reads as 0; an accepted table is never read there.
use Rattle.std.specs.Prelude.{ℕ, zero, suc, ◌+◌, ◌*◌, List, [], ◌∷◌, ℤ, slice_index}
use Rattle.std.specs.Int.{w32}
use Rattle.std.proofs.Common.{to_z}

-- the u16 at place i
unfoldable pub u16_at : List ℕ → ℕ → ℕ
u16_at t i = slice_index t i + 256 * slice_index t (i + 1)

-- the u32 at place i
unfoldable pub u32_at : List ℕ → ℕ → ℕ
u32_at t i = u16_at t i + 65536 * u16_at t (i + 2)

-- the i32 at place i
unfoldable pub i32_at : List ℕ → ℕ → ℤ
i32_at t i = to_z w32 (u32_at t i)

-- the k words from place i on
unfoldable pub words : ℕ → List ℕ → ℕ → List ℕ
words zero t i = []
words (suc k) t i = u16_at t i ∷ words k t (i + 2)

-- the number in the two bytes of a word
abbrev pub word_in : List ℕ → ℕ
word_in bytes = u16_at bytes 0

-- what the numbers of a list add up to
unfoldable pub total : List ℕ → ℕ
total [] = 0
total (x ∷ xs) = x + total xs
