-- The order of an accepted table names every request: N different numbers of 1 to N leave none out.
use Rattle.std.proofs.Common.{ℕ, suc, ◌+◌, ◌≤◌, ◌<◌, ◌≡◌, refl, Bool, true, false, ◌||◌, not, List}
use Rattle.std.proofs.Common.{[], ◌∷◌, arith, eqb, leb, ltb, length, eqb-true, ne_eqb, leb-true, ltb-true, le-leb, lt-ltb}
use borrow.Author.Tests.{not-true}
use Rattle.std.proofs.lemmas.Bool.{eqb-false}
use Rattle.std.specs.List.{AllByRecursion, IsDistinct, list_any}
use Rattle.std.proofs.lemmas.Map.Steps.{length-le_from_distinct_below}
use Rattle.table.specs.declared.record.Frame.{Frame}
use Rattle.table.specs.Lists.{every, among, all_different}
use Rattle.table.specs.Limits.{within}
use Rattle.table.specs.Kept.{Kept, order_of}
use Rattle.table.proofs.Steps.{both}
use Rattle.table.proofs.RecordsStand.{length-words}

-- neither of two tests was passed
neither : (a b : Bool) → (a || b) ≡ false → (a ≡ false) × (b ≡ false)
neither false b e = (refl, e)
neither true b e = cc

-- numbers of 1 to m + 1 without m + 1 are numbers of 1 to m
one_lower : (m : ℕ) (xs : List ℕ) → every (within 1 (suc m + 1)) xs ≡ true → among (suc m) xs ≡ false → every (within 1 (m + 1)) xs ≡ true
unfolding within
one_lower m [] e f = refl
one_lower m (x ∷ xs) e f =
    let g = both (within 1 (suc m + 1) x) (every (within 1 (suc m + 1)) xs) e in
    let h = neither (eqb (suc m) x) (among (suc m) xs) f in
    let range = both (leb 1 x) (ltb x (suc m + 1)) g.0 in
    let high = ltb-true x (suc m + 1) range.1 in
    let other = eqb-false (suc m) x h.0 in
    let low : x < m + 1 = omega arith in
    rw (range.0, lt-ltb x (m + 1) low) (one_lower m xs g.1 h.1)

-- a number that is not in a list differs from each in it
each_other : (n : ℕ) (xs : List ℕ) → among n xs ≡ false → AllByRecursion (λ x. eqb n x ≡ false) xs
each_other n [] e = tt
each_other n (x ∷ xs) e = let h = neither (eqb n x) (among n xs) e in (h.0, each_other n xs h.1)

-- no number twice, as std says it
distinct : (xs : List ℕ) → all_different xs ≡ true → IsDistinct eqb xs
unfolding all_different IsDistinct
distinct [] e = tt
distinct (x ∷ xs) e =
    let h = both (not (among x xs)) (all_different xs) e in
    (each_other x xs (not-true (among x xs) h.0), distinct xs h.1)

-- a number of 1 to m, from its test
in_range : (m n : ℕ) → within 1 (m + 1) n ≡ true → (0 < n) × (n < m + 1)
unfolding within
in_range m n e = let h = both (leb 1 n) (ltb n (m + 1)) e in (leb-true 1 n h.0, ltb-true n (m + 1) h.1)

module _ (m : ℕ) where
  -- 0 is none of the numbers of 1 to m
  zero_is_other : (xs : List ℕ) → every (within 1 (m + 1)) xs ≡ true → AllByRecursion (λ x. eqb 0 x ≡ false) xs
  zero_is_other [] e = tt
  zero_is_other (x ∷ xs) e =
      let h = both (within 1 (m + 1) x) (every (within 1 (m + 1)) xs) e in
      let some = in_range m x h.0 in
      (ne_eqb 0 x (λ (z : 0 ≡ x). absurd (omega arith)), zero_is_other xs h.1)

  -- what is found in a list is its first number, or is found in the rest
  found : (q x : ℕ) (xs : List ℕ) → x < m + 1 → (list_any (eqb q) xs ≡ true → q < m + 1) → list_any (eqb q) (x ∷ xs) ≡ true → q < m + 1
  found q x xs first rest g = by (eqb q x) refl g
    where
      by : (here : Bool) → eqb q x ≡ here → (here || list_any (eqb q) xs) ≡ true → q < m + 1
      by true z g = omega (arith, eqb-true q x z)
      by false z g = rest g

  -- and so each number of the list is below m + 1
  all_below : (xs : List ℕ) → every (within 1 (m + 1)) xs ≡ true → (q : ℕ) → list_any (eqb q) xs ≡ true → q < m + 1
  all_below [] e q g = cc
  all_below (x ∷ xs) e q g =
      let h = both (within 1 (m + 1) x) (every (within 1 (m + 1)) xs) e in found q x xs (in_range m x h.0).1 (all_below xs h.1 q) g

  -- different numbers of 1 to m are at most m
  pub different_are_few : (xs : List ℕ) → all_different xs ≡ true → every (within 1 (m + 1)) xs ≡ true → length xs ≤ m
  unfolding IsDistinct
  different_are_few xs d e =
      let few : length (0 ∷ xs) ≤ m + 1 =
      length-le_from_distinct_below (0 ∷ xs) (m + 1) (zero_is_other xs e, distinct xs d) (λ q. found q 0 xs (omega arith) (all_below xs e q)) in
      omega arith

-- the order of a table that keeps its frame names every request
pub order_covers : (t : List ℕ) (f : Frame) → Kept t f → (request : ℕ) → 0 < request → request ≤ f.requests → among request (order_of t f) ≡ true
unfolding within all_different
order_covers t f kept request some small = by (among request (order_of t f)) refl
  where
    by : (named : Bool) → among request (order_of t f) ≡ named → among request (order_of t f) ≡ true
    by true e = e
    by false e =
        let few = different_are_few f.requests (request ∷ order_of t f) (rw (e, kept.order_different))
        (rw (le-leb 1 request some, lt-ltb request (f.requests + 1) (omega arith), kept.order_is_in_range)) in
        let long = length-words f.requests t (f.order + 4) in
        absurd (omega arith)
