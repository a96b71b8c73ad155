-- A selection of requests, in the order c1 .. cN of document 01: place 0 is the most important request.
use Rattle.std.specs.Prelude.{Bool, true, false, List, [], ◌∷◌, ℕ, zero, suc, replicate}

-- For each request, from the most important one on: is it chosen?
abbrev pub Selection : Type 0
Selection = List Bool

-- All of n requests.
unfoldable pub all : ℕ → Selection
all n = replicate n true

-- None of n requests.
unfoldable pub none : ℕ → Selection
none n = replicate n false

-- How many requests a selection keeps.
unfoldable pub kept : Selection → ℕ
kept [] = zero
kept (true ∷ X) = suc (kept X)
kept (false ∷ X) = kept X

-- How many requests a selection drops.
unfoldable pub dropped : Selection → ℕ
dropped [] = zero
dropped (true ∷ X) = dropped X
dropped (false ∷ X) = suc (dropped X)

infix 20 ◌⊆◌
-- X is a subset of Y, over the same requests: each request is either the same in both, or chosen in Y alone.
pub data ◌⊆◌ : Selection → Selection → Type 0 where
  ends : [] ⊆ []
  same : {b : Bool} {X Y : Selection} → X ⊆ Y → (b ∷ X) ⊆ (b ∷ Y)
  more : {X Y : Selection} → X ⊆ Y → (false ∷ X) ⊆ (true ∷ Y)
