-- The chosen requests of an order, marked in a list by request number.
use Rattle.std.proofs.Common.{sym, ap, ◌⊎◌, inl, inr, ℕ, ◌<◌, ◌≡◌, refl, ◌∙◌, Bool, true, false, ◌||◌, List, [], ◌∷◌, arith, eqb, ltb, leb, length, get_or}
use Rattle.std.proofs.Common.{set, length-set, get_or-set_same, get_or-set_other, ltb-true, eqb-true}
use Rattle.std.proofs.lemmas.Bool.{eqb-false}
use Rattle.table.specs.Lists.{every, among}
use Rattle.table.specs.Limits.{within}
use Rattle.table.proofs.Steps.{both}
use Rattle.preference.specs.Selection.{Selection}
use Rattle.preference.specs.Named.{named}
use Rattle.explain.specs.Asking.{marked}

-- what is left of an order and its flags is marked over `now`, as the whole of them over `entry`
pub record MarksLeft (order : List ℕ) (X : Selection) (now entry : List Bool) (left : List ℕ) (flags : Selection) : Type 0 where
  pub long : length now ≡ length entry
  pub fits : every (within 0 (length entry)) left ≡ true
  pub same : marked (named left flags) now ≡ marked (named order X) entry

-- an order and its flags have an end, and nothing is named behind it
none_named : (left : List ℕ) (flags : Selection) → (length left ≡ 0) ⊎ (length flags ≡ 0) → named left flags ≡ []
unfolding named
none_named [] flags e = refl
none_named (request ∷ left) [] e = refl
none_named (request ∷ left) (chosen ∷ flags) (inl e) = absurd (omega arith)
none_named (request ∷ left) (chosen ∷ flags) (inr e) = absurd (omega arith)

module _ {order : List ℕ} {X : Selection} {now entry : List Bool} {left : List ℕ} {flags : Selection} (marks : MarksLeft order X now entry left flags) where
  -- no request is left
  pub all_marked : (length left ≡ 0) ⊎ (length flags ≡ 0) → now ≡ marked (named order X) entry
  unfolding marked
  all_marked e = sym (ap (λ (l : List ℕ). marked l now) (none_named left flags e)) ∙ marks.same

  module _ {request : ℕ} {more : List ℕ} {chosen : Bool} {rest : Selection} (e : left ≡ request ∷ more) (g : flags ≡ chosen ∷ rest) where
    parted : (within 0 (length entry) request ≡ true) × (every (within 0 (length entry)) more ≡ true)
    parted = both (within 0 (length entry) request) (every (within 0 (length entry)) more) (rw e at marks.fits)

    -- the next request is an entry of the list
    pub entry_within : request < length now
    unfolding within
    entry_within =
        let b = ltb-true request (length entry) (both (leb 0 request) (ltb request (length entry)) parted.0).1 in
        omega (arith, marks.long, b)

    -- it is chosen, and marked
    pub one_marked : chosen ≡ true → {number : ℕ} → number ≡ request → MarksLeft order X (set now number true) entry more rest
    unfolding named marked
    one_marked is_true {number = number} is =
        record { long = length-set now number true ∙ marks.long; fits = parted.1; same = rw is (rw (e, g, is_true) at marks.same) }

    -- or it is passed over
    pub one_passed : chosen ≡ false → MarksLeft order X now entry more rest
    unfolding named
    one_passed is_false = record { long = marks.long; fits = parted.1; same = rw (e, g, is_false) at marks.same }

pub length_marked : (requests : List ℕ) (chosen : List Bool) → length (marked requests chosen) ≡ length chosen
unfolding marked
length_marked [] chosen = refl
length_marked (request ∷ more) chosen = length_marked more (set chosen request true) ∙ length-set chosen request true

swap : (a b c : Bool) → (a || (b || c)) ≡ ((b || a) || c)
swap true true c = refl
swap true false c = refl
swap false true c = refl
swap false false c = refl

set_reads :
    (chosen : List Bool) (request role : ℕ) →
    request < length chosen →
    get_or (set chosen request true) role false ≡ (eqb role request || get_or chosen role false)
set_reads chosen request role h = by (eqb role request) refl
  where
    by : (same : Bool) → eqb role request ≡ same → get_or (set chosen request true) role false ≡ (eqb role request || get_or chosen role false)
    by true e = rw (e, eqb-true role request e) (get_or-set_same chosen request true false h)
    by false e = rw e (get_or-set_other chosen request role true false (eqb-false role request e))

-- an entry is true after marking where it was, or where its request is among those marked
pub marked_reads :
    (requests : List ℕ) (chosen : List Bool) (role : ℕ) →
    every (within 0 (length chosen)) requests ≡ true →
    get_or (marked requests chosen) role false ≡ (among role requests || get_or chosen role false)
unfolding marked within
marked_reads [] chosen role h = refl
marked_reads (request ∷ more) chosen role h =
    let g = both (within 0 (length chosen) request) (every (within 0 (length chosen)) more) h in
    let small = ltb-true request (length chosen) (both (leb 0 request) (ltb request (length chosen)) g.0).1 in
    let l : length (set chosen request true) ≡ length chosen = length-set chosen request true in
    marked_reads more (set chosen request true) role (rw l g.1)
    ∙ rw (set_reads chosen request role small) (swap (among role more) (eqb role request) (get_or chosen role false))

-- what is named of an order stands in the order
pub every_named : (test : ℕ → Bool) (order : List ℕ) (X : Selection) → every test order ≡ true → every test (named order X) ≡ true
unfolding named
every_named test [] X h = refl
every_named test (request ∷ order) [] h = refl
every_named test (request ∷ order) (true ∷ X) h =
    let g = both (test request) (every test order) h in rw g.0 (every_named test order X g.1)
every_named test (request ∷ order) (false ∷ X) h = every_named test order X (both (test request) (every test order) h).1
