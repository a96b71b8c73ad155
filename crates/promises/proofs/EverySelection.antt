-- Every lent selection is one of the selections that the methods' conflicts and relaxations are among: none is left out.
use Rattle.std.proofs.Common.{ℕ, suc, ◌+◌, ◌≤◌, ◌<◌, ◌≡◌, refl, sym, ap, ◌∙◌, Bool, true, false, ◌&&◌, ◌||◌, List, [], ◌∷◌, eqb, length, eqb-true}
use Rattle.std.proofs.Math.Bool.{and-false}
use Rattle.table.specs.declared.record.Frame.{Frame}
use Rattle.table.specs.Lists.{among}
use Rattle.table.specs.Kept.{Kept, order_of}
use Rattle.preference.specs.Selection.{Selection}
use Rattle.preference.specs.Named.{named}
use Rattle.explain.specs.Asking.{chosen_by}
use Rattle.promises.specs.Selecting.{selection_of}
use Rattle.promises.specs.Demands.{AskedInPublic}
use Rattle.promises.proofs.OrderCovers.{order_covers}
use Rattle.table.proofs.RecordsStand.{length-words}
use Rattle.promises.proofs.PublicQuestion.{asked_in_public}

-- the places of an order whose requests are chosen
unfoldable pub places_of : List ℕ → (ℕ → Bool) → Selection
places_of [] chosen = []
places_of (request ∷ order) chosen = chosen request ∷ places_of order chosen

-- there is one for each request of the order
pub length_places : (order : List ℕ) (chosen : ℕ → Bool) → length (places_of order chosen) ≡ length order
unfolding places_of
length_places [] chosen = refl
length_places (request ∷ order) chosen = ap suc (length_places order chosen)

-- they name the requests of the order that are chosen
pub places_name : (role : ℕ) (order : List ℕ) (chosen : ℕ → Bool) → among role (named order (places_of order chosen)) ≡ (among role order && chosen role)
unfolding places_of named
places_name role [] chosen = refl
places_name role (request ∷ order) chosen = by (chosen request) (eqb role request) refl refl (places_name role order chosen)
  where
    rest : Selection
    rest = places_of order chosen

    by :
        (here same : Bool) → chosen request ≡ here → eqb role request ≡ same →
        among role (named order rest) ≡ (among role order && chosen role) →
        among role (named (request ∷ order) (here ∷ rest)) ≡ ((eqb role request || among role order) && chosen role)
    by true true c e h = rw (e, eqb-true role request e, c)
    by true false c e h = rw (e, h)
    by false true c e h = rw (h, e, eqb-true role request e, c, and-false (among request order))
    by false false c e h = rw (e, h)

-- every lent selection is the choice of some places of the order, about which the methods' question is the public one
pub every_selection_is_asked : (t : List ℕ) (f : Frame) → Kept t f → (selection : ℕ) → AskedInPublic t f selection
unfolding chosen_by
every_selection_is_asked t f kept selection =
    record {
      places = places;
      over = length_places (order_of t f) chosen ∙ length-words f.requests t (f.order + 4);
      names = names;
      same_answer = asked_in_public t f (order_of t f) places selection kept (λ request some small. sym (names request some small));
    }
  where
    chosen : ℕ → Bool
    chosen = selection_of f.requests selection

    places : Selection
    places = places_of (order_of t f) chosen

    names : (request : ℕ) → 0 < request → request ≤ f.requests → among request (named (order_of t f) places) ≡ selection_of f.requests selection request
    names request some small =
        places_name request (order_of t f) chosen
        ∙ ap (λ (named : Bool). named && chosen request) (order_covers t f kept request some small)
