-- The trail of a search, as the list of its decisions, the last one first.
use Rattle.std.specs.Prelude.{ℕ, ◌<◌, ◌≡◌, cond, List, [], ◌∷◌, eqb, length, set, reverse, take, All, not, Bool, Option, None, option_map, MatchOption}
use Rattle.meaning.specs.HalfMade.{Values}
use Rattle.question.specs.declared.trail.Decided.{Decided}

-- the decisions of a trail: its first `depth` entries, the last one first
abbrev pub decisions : List Decided → ℕ → List Decided
decisions entries depth = reverse (take depth entries)

-- the other value of a decided variable
abbrev pub other_value : Option Bool → Option Bool
other_value value = option_map not value

-- each decision is over a variable that there is
abbrev pub EachInside : Values → List Decided → Type 0
EachInside values trail = All (λ decided. decided.variable < length values) trail

-- what is left of the decisions when those at the end of which both values are tried are taken back
unfoldable pub back_to : List Decided → List Decided
back_to [] = []
back_to (last ∷ earlier) = cond (eqb last.waiting 0) (back_to earlier) (last ∷ earlier)

-- the values then: the variables of these decisions are undecided again
unfoldable pub values_back : List Decided → Values → Values
values_back [] values = values
values_back (last ∷ earlier) values = cond (eqb last.waiting 0) (values_back earlier (set values last.variable None)) values

-- decisions of a trail taken back, and with them the last one that is left, if there is one; and the values
pub record TakenBack (trail : List Decided) (values : Values) (taken : Option Decided) (earlier : List Decided) (now-values : Values) : Type 0 where
  pub last : MatchOption taken ((back_to trail ≡ []) × (earlier ≡ [])) (λ last. back_to trail ≡ last ∷ earlier)
  pub values_back : now-values ≡ values_back trail values
