-- Runs of flags that are set to one value.
use Rattle.std.specs.Prelude.{ℕ, ◌+◌, Bool, List, ◌++◌, take, drop, replicate}

-- the list with `count` entries from `from` on at the value
unfoldable pub filled : ℕ → ℕ → Bool → List Bool → List Bool
filled from count value X = take from X ++ (replicate count value ++ drop (from + count) X)
