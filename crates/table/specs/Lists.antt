-- Tests over lists.
use Rattle.std.specs.Prelude.{ℕ, Bool, true, not, ◌&&◌, List, [], ◌∷◌, ◌==◌}
use Rattle.std.specs.List.{list_any, list_all}

-- every element passes the test
abbrev pub every : {A : Type 0} → (A → Bool) → List A → Bool
every test xs = list_all test xs

-- the number stands in the list
abbrev pub among : ℕ → List ℕ → Bool
among n xs = list_any (λ x. n == x) xs

-- no number stands in the list twice
unfoldable pub all_different : List ℕ → Bool
all_different [] = true
all_different (x ∷ xs) = not (among x xs) && all_different xs
