-- The list of 65 entries keeps its rule, by one test that is computed over the whole list; and d for more requests than that.
use Rattle.std.proofs.Common.{◌≡◌, refl, Bool, true, false, ◌&&◌, ◌||◌, List, [], ◌∷◌, ℕ, zero, suc, ◌+◌, ◌-◌, ◌*◌, ◌/◌, ◌^◌, ◌≤◌, ◌<◌}
use Rattle.std.proofs.Common.{arith, add-zero, add-one, length, get_or, pow_mono, leb, ltb, eqb, leb-true, ltb-true, eqb-true, leb-false}
use Rattle.std.proofs.Math.Bool.{and-eq-true_iff}
use Rattle.std.proofs.Math.Nat.{pow-succ'}
use Rattle.preference.specs.Depth.{Depth, depths}

-- a test passes at each entry of a list and its place, counted from i
abbrev passes : (ℕ → ℕ → Bool) → ℕ → List ℕ → Bool
passes test i [] = true
passes test i (x ∷ xs) = test i x && passes test (suc i) xs

passes_at : (test : ℕ → ℕ → Bool) (xs : List ℕ) (i : ℕ) → passes test i xs ≡ true → (k : ℕ) → k < length xs → test (i + k) (get_or xs k 0) ≡ true
passes_at test [] i h k l = absurd (omega arith)
passes_at test (x ∷ xs) i h zero l = rw add-zero ((and-eq-true_iff (test i x) (passes test (suc i) xs)).0 h).0
passes_at test (x ∷ xs) i h (suc k) l =
    let e : i + suc k ≡ suc i + k = omega arith in
    rw e (passes_at test xs (suc i) ((and-eq-true_iff (test i x) (passes test (suc i) xs)).0 h).1 k (omega arith))

-- x is the least number with 2^x at least n, as a test
least : ℕ → ℕ → Bool
least n x = leb n (2 ^ x) && (eqb x 0 || ltb (2 ^ (x - 1)) n)

least_is_depth : (n x : ℕ) → least n x ≡ true → Depth n x
unfolding least
least_is_depth n x h =
    let (enough, no_less) = (and-eq-true_iff (leb n (2 ^ x)) (eqb x 0 || ltb (2 ^ (x - 1)) n)).0 h in
    record { enough = leb-true n (2 ^ x) enough; least = go (eqb x 0) refl no_less }
  where
    go : (t : Bool) → eqb x 0 ≡ t → t || ltb (2 ^ (x - 1)) n ≡ true → (e : ℕ) → n ≤ 2 ^ e → x ≤ e
    go true z g e f = omega (arith, eqb-true x 0 z)
    go false z g e f = smaller (leb x e) refl
      where
        smaller : (t : Bool) → leb x e ≡ t → x ≤ e
        smaller true l = leb-true x e l
        smaller false l =
            let s : e ≤ x - 1 = omega (arith, leb-false x e l) in
            absurd (omega (arith, pow_mono s, ltb-true (2 ^ (x - 1)) n g))

-- the rule of the list
pub depths_keep_their_rule : (n : ℕ) → n ≤ 64 → Depth n (get_or depths n 0)
unfolding depths least
depths_keep_their_rule n h =
    let e : 0 + n ≡ n = omega arith in
    least_is_depth n (get_or depths n 0) (rw e at (passes_at least depths 0 refl n (omega arith)))

pub depth_is_unique : (n d e : ℕ) → Depth n d → Depth n e → d ≡ e
depth_is_unique n d e p q = omega (arith, p.least e q.enough, q.least d p.enough)

-- a part that is cut has one cut more than the larger of its two parts
pub one_cut_more : (n d : ℕ) → 2 ≤ n → Depth (n - n / 2) d → Depth n (suc d)
one_cut_more n d h p =
    record { enough = omega (arith, p.enough, pow-succ' 2 d); least = least_more }
  where
    least_more : (e : ℕ) → n ≤ 2 ^ e → suc d ≤ e
    least_more zero g = absurd (omega arith)
    least_more (suc e) g =
        let f : n - n / 2 ≤ 2 ^ e = omega (arith, pow-succ' 2 e) in
        omega (arith, p.least e f)

-- d is one more than the whole logarithm of the number before
pub depth_of_logarithm : (n d : ℕ) → 0 < n → 2 ^ d ≤ n - 1 → n - 1 < 2 * 2 ^ d → Depth n (d + 1)
depth_of_logarithm n d h low high =
    let enough : n ≤ 2 ^ (suc d) = omega (arith, pow-succ' 2 d) in
    record { enough = rw add-one enough; least = least_more }
  where
    least_more : (e : ℕ) → n ≤ 2 ^ e → d + 1 ≤ e
    least_more e g = smaller (leb (d + 1) e) refl
      where
        smaller : (t : Bool) → leb (d + 1) e ≡ t → d + 1 ≤ e
        smaller true l = leb-true (d + 1) e l
        smaller false l =
            let s : e ≤ d = omega (arith, leb-false (d + 1) e l) in
            absurd (omega (arith, pow_mono s))
