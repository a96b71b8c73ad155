-- Small questions, answered by the definitions themselves (document 01, "Meaning", and rows E, J and K of its sample sheet).
use Rattle.std.proofs.Common.{ℕ, ◌≡◌, refl, Bool, true, false, [], ◌∷◌, ℤ, pos, negsuc}
use Rattle.table.specs.declared.terms.Term.{Term}
use Rattle.table.specs.Rows.{Row, clause, linear}
use Rattle.meaning.specs.Meaning.{is_true, value_of, product, sum_of, meets, role_of, counts, respects, meets_all}
use Rattle.meaning.specs.Stands.{some_setting, stands, by_role}

-- the selections of no request, of request 1, and of requests 1 and 2
abbrev none : ℕ → Bool
none = by_role (true ∷ [])

abbrev first : ℕ → Bool
first = by_role (true ∷ true ∷ [])

abbrev both : ℕ → Bool
both = by_role (true ∷ true ∷ true ∷ [])

-- a request, by its number, that wants variable 0 at 1, and one that wants it at 0
abbrev wants : ℕ → Row
wants request = clause request (0 ∷ [])

abbrev refuses : ℕ → Row
refuses request = clause request (1 ∷ [])

-- variable 0 with a weight
abbrev times : ℤ → Term
times weight = record { variable = 0; weight = weight }

-- with no variable there is one setting; a clause with no literal is never met
no_variables :
    (stands [] 0 none ≡ true)
    × (stands (clause 0 [] ∷ []) 0 none ≡ false)
    × (stands (clause 0 [] ∷ []) 2 none ≡ false)
    × (stands (clause 1 [] ∷ []) 2 none ≡ true)
    × (stands (clause 1 [] ∷ []) 2 first ≡ false)
unfolding stands some_setting meets_all respects counts role_of meets
no_variables = (refl, refl, refl, refl, refl)

-- E: x0 and !x0 stand alone and not together; a repeated literal changes nothing
opposites :
    (stands (wants 1 ∷ refuses 2 ∷ []) 1 both ≡ false)
    × (stands (wants 1 ∷ refuses 2 ∷ []) 1 first ≡ true)
    × (stands (refuses 0 ∷ wants 1 ∷ []) 1 first ≡ false)
    × (stands (refuses 0 ∷ clause 1 (0 ∷ 0 ∷ []) ∷ []) 1 first ≡ false)
    × (stands (refuses 0 ∷ clause 1 (0 ∷ 2 ∷ []) ∷ []) 2 first ≡ true)
unfolding stands some_setting meets_all respects counts role_of meets is_true
opposites = (refl, refl, refl, refl, refl)

-- J: x0 + x0 at most 1 cannot hold with x0; K: -3 x0 at most -1 forces x0; the bound itself is allowed; no terms have the sum 0
budgets :
    (stands (linear 0 (pos 1) (times (pos 1) ∷ times (pos 1) ∷ []) ∷ wants 1 ∷ []) 1 first ≡ false)
    × (stands (linear 0 (pos 2) (times (pos 1) ∷ times (pos 1) ∷ []) ∷ wants 1 ∷ []) 1 first ≡ true)
    × (stands (linear 0 (negsuc 0) (times (negsuc 2) ∷ []) ∷ refuses 1 ∷ []) 1 first ≡ false)
    × (stands (linear 0 (negsuc 0) (times (negsuc 2) ∷ []) ∷ wants 1 ∷ []) 1 first ≡ true)
    × (stands (linear 0 (pos 0) [] ∷ []) 0 none ≡ true)
    × (stands (linear 0 (negsuc 0) [] ∷ []) 0 none ≡ false)
unfolding stands some_setting meets_all respects counts role_of meets is_true sum_of product value_of
budgets = (refl, refl, refl, refl, refl, refl)
