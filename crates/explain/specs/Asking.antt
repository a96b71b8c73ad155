-- The question of a table and an order: can the chosen requests stand? (document 01, "Meaning")
use Rattle.std.specs.Prelude.{ℕ, Bool, true, List, [], ◌∷◌, set}
use Rattle.table.specs.declared.record.Frame.{Frame}
use Rattle.table.specs.Lists.{among}
use Rattle.table.specs.Kept.{rows_of}
use Rattle.meaning.specs.Stands.{stands}
use Rattle.preference.specs.Selection.{Selection}
use Rattle.preference.specs.Question.{Question}
use Rattle.preference.specs.Named.{named}

-- a selection of an order by request number: the request is one of those that are named
unfoldable pub chosen_by : List ℕ → Selection → ℕ → Bool
chosen_by order X request = among request (named order X)

-- the question of a table with this frame and an order
unfoldable pub question_of : List ℕ → Frame → List ℕ → Question
question_of t f order X = stands (rows_of t f) f.variables (chosen_by order X)

-- the list with the entries of these requests true
unfoldable pub marked : List ℕ → List Bool → List Bool
marked [] chosen = chosen
marked (request ∷ more) chosen = marked more (set chosen request true)
