-- The requests of a selection by their numbers, where the order says which number stands at each place.
use Rattle.std.specs.Prelude.{true, false, List, [], ◌∷◌, ℕ}
use Rattle.preference.specs.Selection.{Selection}

-- The numbers of the chosen requests, in the order's order (document 01, "The report").
unfoldable pub named : List ℕ → Selection → List ℕ
named [] X = []
named (request ∷ order) [] = []
named (request ∷ order) (true ∷ X) = request ∷ named order X
named (request ∷ order) (false ∷ X) = named order X
