-- How a part of the requests is cut into two non-empty parts, and these again, down to single requests.
use Rattle.std.specs.Prelude.{◌≡◌, cond, ℕ, zero, suc, ◌+◌, ◌-◌, ◌/◌, ◌≤◌, ◌<◌, leb}

-- A part of one request, or a part cut into its more important requests and the rest. Every way of cutting is such a tree.
pub data Tree : Type 0 where
  leaf : Tree
  node : (first rest : Tree) → Tree

-- How many requests the part has.
unfoldable pub size : Tree → ℕ
size leaf = 1
size (node a b) = size a + size b

-- A tree for n requests. (Where there are none, nothing is cut.)
abbrev pub TreeFor : ℕ → Tree → Type 0
TreeFor n t = 0 < n → size t ≡ n

-- No request lies under more than d cuts.
abbrev pub Deep : Tree → ℕ → Type 0
Deep leaf d = Unit
Deep (node a b) zero = ⊥
Deep (node a b) (suc d) = Deep a d × Deep b d

-- Document 004, line 7: a rule says after how many requests a part of n is cut, between 1 and n - 1.
abbrev pub Cuts : (ℕ → ℕ) → Type 0
Cuts cut = (n : ℕ) → 2 ≤ n → (1 ≤ cut n) × (cut n < n)

-- A part of n requests cut by a rule, as far as the fuel lasts; n is enough of it.
unfoldable pub tree_of : (cut : ℕ → ℕ) (fuel n : ℕ) → Tree
tree_of cut zero n = leaf
tree_of cut (suc fuel) n =
    let both = node (tree_of cut fuel (cut n)) (tree_of cut fuel (n - cut n)) in
    cond (leb n 1) leaf both

-- A part of n requests, cut by a rule.
abbrev pub tree_by : (cut : ℕ → ℕ) → ℕ → Tree
tree_by cut n = tree_of cut n n

-- "A part of n requests is cut into the first floor(n/2) and the rest."
abbrev pub half : ℕ → ℕ
half n = n / 2

-- The tree of document 01's cut.
abbrev pub middle : ℕ → Tree
middle n = tree_by half n
