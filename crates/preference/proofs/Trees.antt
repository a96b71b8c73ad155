-- Laws of the trees that a rule cuts: how a part is cut, how many requests it has, and how deep the middle cut goes.
use Rattle.std.proofs.Common.{◌≡◌, refl, sym, ap₂, ◌∙◌, Bool, true, false, ℕ, zero, suc, ◌-◌, ◌/◌, ◌^◌, ◌≤◌, arith, leb, le-leb, leb-true, leb-false}
use Rattle.std.proofs.Math.Nat.{pow-succ'}
use borrow.Author.Tests.{lt-leb}
use Rattle.preference.specs.Cut.{leaf, node, size, Deep, Cuts, tree_of, TreeFor, tree_by, half, middle}

-- a part of one, and of none, is not cut
small : (cut : ℕ → ℕ) (fuel n : ℕ) → n ≤ 1 → tree_of cut fuel n ≡ leaf
unfolding tree_of
small cut zero n h = refl
small cut (suc fuel) n h = rw (le-leb n 1 h)

larger : (cut : ℕ → ℕ) (fuel n : ℕ) → 2 ≤ n → tree_of cut (suc fuel) n ≡ node (tree_of cut fuel (cut n)) (tree_of cut fuel (n - cut n))
unfolding tree_of
larger cut fuel n h = rw (lt-leb n 1 h)

pub tree_of_one : (cut : ℕ → ℕ) (n : ℕ) → n ≡ 1 → tree_by cut n ≡ leaf
tree_of_one cut n e = small cut n n (omega arith)

-- a part is small, or it is cut
small_or_cut : (n : ℕ) {A : Type 0} → (n ≤ 1 → A) → (2 ≤ n → A) → A
small_or_cut n {A} f g = go (leb n 1) refl
  where
    go : (t : Bool) → leb n 1 ≡ t → A
    go true e = f (leb-true n 1 e)
    go false e = g (leb-false n 1 e)

module _ (cut : ℕ → ℕ) (cuts : Cuts cut) where
  -- more fuel than requests changes nothing
  enough : (fuel more n : ℕ) → n ≤ fuel → n ≤ more → tree_of cut fuel n ≡ tree_of cut more n
  enough zero more n f m = small cut zero n (omega arith) ∙ sym (small cut more n (omega arith))
  enough (suc fuel) zero n f m = small cut (suc fuel) n (omega arith) ∙ sym (small cut zero n (omega arith))
  enough (suc fuel) (suc more) n f m =
      small_or_cut n (λ h. small cut (suc fuel) n h ∙ sym (small cut (suc more) n h))
      (λ h. larger cut fuel n h
      ∙ ap₂ node (enough fuel more (cut n) (omega (arith, cuts n h)) (omega (arith, cuts n h)))
      (enough fuel more (n - cut n) (omega (arith, cuts n h)) (omega (arith, cuts n h)))
      ∙ sym (larger cut more n h))

  pub tree-cut : (n : ℕ) → 2 ≤ n → tree_by cut n ≡ node (tree_by cut (cut n)) (tree_by cut (n - cut n))
  tree-cut zero h = absurd (omega arith)
  tree-cut (suc n) h =
      larger cut n (suc n) h
      ∙ ap₂ node (enough n (cut (suc n)) (cut (suc n)) (omega (arith, cuts (suc n) h)) (omega arith))
      (enough n (suc n - cut (suc n)) (suc n - cut (suc n)) (omega (arith, cuts (suc n) h)) (omega arith))

  size-tree_of : (fuel n : ℕ) → 1 ≤ n → n ≤ fuel → size (tree_of cut fuel n) ≡ n
  unfolding size
  size-tree_of zero n h f = absurd (omega arith)
  size-tree_of (suc fuel) n h f =
      small_or_cut n (λ g. rw (small cut (suc fuel) n g) (omega arith))
      (λ g. rw (larger cut fuel n g)
      (omega (
        arith,
        cuts n g,
        size-tree_of fuel (cut n) (cuts n g).0 (omega (arith, cuts n g)),
        size-tree_of fuel (n - cut n) (omega (arith, cuts n g)) (omega (arith, cuts n g)),
      )))

  pub size-tree : (n : ℕ) → TreeFor n (tree_by cut n)
  size-tree n h = size-tree_of n n h (omega arith)

pub half_cuts : Cuts half
half_cuts n h = omega arith

deep_tree_of : (fuel d n : ℕ) → n ≤ 2 ^ d → Deep (tree_of half fuel n) d
unfolding tree_of
deep_tree_of zero d n h = tt
deep_tree_of (suc fuel) zero n h = rw (small half (suc fuel) n (omega arith)) tt
deep_tree_of (suc fuel) (suc d) n h =
    small_or_cut n (λ g. rw (small half (suc fuel) n g) tt)
    (λ g. rw (larger half fuel n g)
    (deep_tree_of fuel d (n / 2) (omega (arith, pow-succ' 2 d)), deep_tree_of fuel d (n - n / 2) (omega (arith, pow-succ' 2 d))))

-- the middle cut: no request lies under more than d cuts where there are at most 2^d requests
pub middle_is_deep : (d n : ℕ) → n ≤ 2 ^ d → Deep (middle n) d
middle_is_deep d n h = deep_tree_of n d n h
