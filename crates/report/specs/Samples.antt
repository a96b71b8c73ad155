-- Two reports of document 01's sample sheet, byte by byte.
use Rattle.std.specs.Prelude.{ℕ, List, [], ◌∷◌}

-- Row H's conflict: kind 16, status 1, 8 questions, the requests 2, 4 and 3.
abbrev pub conflict_h : List ℕ
conflict_h = 14 ∷ 0 ∷ 16 ∷ 0 ∷ 1 ∷ 0 ∷ 8 ∷ 0 ∷ 0 ∷ 0 ∷ 3 ∷ 0 ∷ 2 ∷ 0 ∷ 4 ∷ 0 ∷ 3 ∷ 0 ∷ []

-- Row A's conflict: kind 16, status 0, 1 question, no request.
abbrev pub conflict_a : List ℕ
conflict_a = 8 ∷ 0 ∷ 16 ∷ 0 ∷ 0 ∷ 0 ∷ 1 ∷ 0 ∷ 0 ∷ 0 ∷ 0 ∷ 0 ∷ []
