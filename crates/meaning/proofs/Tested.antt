-- Lists of which every element, or at least one, passes a test.
use Rattle.std.proofs.Common.{ℕ, zero, suc, ◌<◌, arith, length, get_or, ◌≡◌, refl, sym, ap₂, Bool, true, false, ◌&&◌, ◌||◌, true≢false, List, [], ◌∷◌}
use mathlib.Core.Bool.{or-true}
use mathlib.Core.List.Memᴰ
use mathlib.Core.List.{Memᴰ}
use Rattle.table.specs.Lists.{every}
use Rattle.table.proofs.Steps.{both}
use Rattle.meaning.specs.Meaning.{any_of}

pub together : {a b : Bool} → a ≡ true → b ≡ true → (a && b) ≡ true
together p q = rw (p, q)

-- neither holds where their disjunction does not
pub neither : (a b : Bool) → (a || b) ≡ false → (a ≡ false) × (b ≡ false)
neither true b e = absurd (true≢false e)
neither false b e = (refl, e)

-- where one of two holds, and each implies another, one of the others holds
pub either_more : (a b c d : Bool) → (a ≡ true → c ≡ true) → (b ≡ true → d ≡ true) → (a || b) ≡ true → (c || d) ≡ true
either_more true b c d f g e = rw (f refl)
either_more false b c d f g e = rw (g e) (or-true c)

-- two answers that imply each other are equal
pub equal_answers : (a b : Bool) → (a ≡ true → b ≡ true) → (b ≡ true → a ≡ true) → a ≡ b
equal_answers true b f g = sym (f refl)
equal_answers false true f g = g refl
equal_answers false false f g = refl

module _ {A : Type 0} where
  -- a test that passes more passes every list that the other passes
  pub every_more : (few many : A → Bool) → ((x : A) → few x ≡ true → many x ≡ true) → (xs : List A) → every few xs ≡ true → every many xs ≡ true
  every_more few many h [] e = refl
  every_more few many h (x ∷ xs) e =
      let p : (few x ≡ true) × (every few xs ≡ true) = both (few x) (every few xs) e in
      together (h x p.0) (every_more few many h xs p.1)

  -- tests that agree on the elements of a list agree on the list
  pub every_same : (one other : A → Bool) (xs : List A) → ((x : A) → Memᴰ x xs → one x ≡ other x) → every one xs ≡ every other xs
  every_same one other [] h = refl
  every_same one other (x ∷ xs) h =
      ap₂ (λ (a b : Bool). a && b) (h x (Memᴰ.head refl)) (every_same one other xs (λ y m. h y (Memᴰ.tail m)))

  -- each element of a list that passes whole
  pub every_member : (test : A → Bool) (x : A) (xs : List A) → every test xs ≡ true → Memᴰ x xs → test x ≡ true
  every_member test x [] e m = absurd (Memᴰ.not-nil m)
  every_member test x (y ∷ ys) e (Memᴰ.head p) = rw p (both (test y) (every test ys) e).0
  every_member test x (y ∷ ys) e (Memᴰ.tail m) = every_member test x ys (both (test y) (every test ys) e).1 m

  pub member_every : (test : A → Bool) (xs : List A) → ((x : A) → Memᴰ x xs → test x ≡ true) → every test xs ≡ true
  member_every test [] h = refl
  member_every test (x ∷ xs) h = together (h x (Memᴰ.head refl)) (member_every test xs (λ y m. h y (Memᴰ.tail m)))

  -- a list passes whole exactly where the element at each place passes
  pub every_at : (test : A → Bool) (xs : List A) (d : A) (i : ℕ) → every test xs ≡ true → i < length xs → test (get_or xs i d) ≡ true
  every_at test [] d i e h = absurd (omega arith)
  every_at test (x ∷ xs) d zero e h = (both (test x) (every test xs) e).0
  every_at test (x ∷ xs) d (suc i) e h = every_at test xs d i (both (test x) (every test xs) e).1 (omega arith)

  pub at_every : (test : A → Bool) (xs : List A) (d : A) → ((i : ℕ) → i < length xs → test (get_or xs i d) ≡ true) → every test xs ≡ true
  at_every test [] d h = refl
  at_every test (x ∷ xs) d h = together (h 0 (omega arith)) (at_every test xs d (λ i below. h (suc i) (omega arith)))

  pub any_more : (few many : A → Bool) → ((x : A) → few x ≡ true → many x ≡ true) → (xs : List A) → any_of few xs ≡ true → any_of many xs ≡ true
  any_more few many h [] e = e
  any_more few many h (x ∷ xs) e = either_more (few x) (any_of few xs) (many x) (any_of many xs) (h x) (any_more few many h xs) e

  -- where none passes, each fails
  pub any_member : (test : A → Bool) (x : A) (xs : List A) → any_of test xs ≡ false → Memᴰ x xs → test x ≡ false
  any_member test x [] e m = absurd (Memᴰ.not-nil m)
  any_member test x (y ∷ ys) e (Memᴰ.head p) = rw p (neither (test y) (any_of test ys) e).0
  any_member test x (y ∷ ys) e (Memᴰ.tail m) = any_member test x ys (neither (test y) (any_of test ys) e).1 m
