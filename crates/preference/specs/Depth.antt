-- d, by which the count of the halving method is bounded: at most 2 + 2kd.
use Rattle.std.specs.Prelude.{List, [], ◌∷◌, ℕ, ◌^◌, ◌≤◌}

-- Document 01: "d is the least number with 2^d at least N".
pub record Depth (n d : ℕ) : Type 0 where
  pub enough : n ≤ 2 ^ d
  pub least : (e : ℕ) → n ≤ 2 ^ e → d ≤ e

-- "It is set out as a list of 65 entries, one for each N": for N = 0, for 1, 2, 3 to 4, 5 to 8, 9 to 16, 17 to 32 and 33 to 64.
unfoldable pub depths : List ℕ
depths =
    0 ∷
    0 ∷
    1 ∷
    2 ∷ 2 ∷
    3 ∷ 3 ∷ 3 ∷ 3 ∷
    4 ∷ 4 ∷ 4 ∷ 4 ∷ 4 ∷ 4 ∷ 4 ∷ 4 ∷
    5 ∷ 5 ∷ 5 ∷ 5 ∷ 5 ∷ 5 ∷ 5 ∷ 5 ∷ 5 ∷ 5 ∷ 5 ∷ 5 ∷ 5 ∷ 5 ∷ 5 ∷ 5 ∷
    6 ∷ 6 ∷ 6 ∷ 6 ∷ 6 ∷ 6 ∷ 6 ∷ 6 ∷ 6 ∷ 6 ∷ 6 ∷ 6 ∷ 6 ∷ 6 ∷ 6 ∷ 6 ∷ 6 ∷ 6 ∷ 6 ∷ 6 ∷ 6 ∷ 6 ∷ 6 ∷ 6 ∷ 6 ∷ 6 ∷ 6 ∷ 6 ∷ 6 ∷ 6 ∷ 6 ∷ 6 ∷
    []
