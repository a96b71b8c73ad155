-- The one-by-one method (document 01, "The two methods and their counts"; document 004, the constructive definitions before Proposition 4).
use Rattle.std.specs.Prelude.{Bool, true, false, cond, [], ◌∷◌, ◌++◌, ℕ, zero, suc}
use Rattle.preference.specs.Selection.{Selection, all, none}
use Rattle.preference.specs.Question.{Question}
use Rattle.preference.specs.Part.{Part, together}

-- The least important request that is undecided, kept or removed by the answer to one question, before what is decided already.
abbrev pub tried_without : Bool → Selection → Part
tried_without keep S = record { set = keep ∷ S; found = cond keep 1 0; asked = 1 }

-- Conflict: "from cN to c1, ask what is left without this request, and remove it if that cannot stand."
-- The first n requests are still to be tried, and S is what was decided of those after them.
unfoldable pub one_conflict : Question → ℕ → Selection → Part
one_conflict ok zero S = record { set = S; found = 0; asked = 0 }
one_conflict ok (suc n) S =
    let keep = ok (all n ++ (false ∷ S)) in
    together (tried_without keep S) (one_conflict ok n (keep ∷ S))

-- The most important request that is undecided, kept or dropped by the answer to one question, after what is decided already.
abbrev pub tried_with : Selection → Bool → Part
tried_with P keep = record { set = P ++ (keep ∷ []); found = cond keep 0 1; asked = 1 }

-- Relaxation: "from c1 to cN, ask with this request added, and keep it if that can stand."
-- P is what was decided of the first requests, and n requests after them are still to be tried.
unfoldable pub one_relax : Question → Selection → ℕ → Part
one_relax ok P zero = record { set = P; found = 0; asked = 0 }
one_relax ok P (suc n) =
    let keep = ok (P ++ (true ∷ none n)) in
    together (tried_with P keep) (one_relax ok (P ++ (keep ∷ [])) n)
