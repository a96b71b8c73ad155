-- Halving finds the set that one by one finds, whatever the cut (document 004, Proposition 6 and Theorem 1).
use Rattle.std.proofs.Common.{◌≡◌, refl, sym, ap, ◌∙◌, Bool, true, false, not, true≢false, [], ◌∷◌, ◌++◌, append_assoc, append-nil}
use Rattle.std.proofs.Common.{ℕ, zero, suc, ◌+◌, arith, add-zero, zero-add, add-suc, suc-add, add_assoc, add-one, ltb, ltb-false}
use Rattle.preference.specs.Selection.{Selection, all, none, ◌⊆◌, same}
use Rattle.preference.specs.Question.{Question}
use Rattle.preference.specs.Part.{Part, entered}
use Rattle.preference.specs.OneByOne.{one_conflict, one_relax}
use Rattle.preference.specs.Cut.{Tree, leaf, node, size}
use Rattle.preference.specs.Halving.{halve_conflict, halve_relax, enter_conflict, enter_relax}
use Rattle.preference.proofs.Found.{conflict_finds, relax_finds}
use Rattle.preference.proofs.Selections.{all-add, none-add, none_then_none, subset_refl, subset-append, none_subset_all}

-- the ground without a part lies within all requests up to its end
ground_within : (before n : ℕ) (S : Selection) → all before ++ (none n ++ S) ⊆ all (before + n) ++ S
ground_within before n S = rw (all-add, append_assoc) (subset-append (subset_refl (all before)) (subset-append (none_subset_all n) (subset_refl S)))

-- the first request of a part, added alone, lies within the part added whole
first_within : (P : Selection) (n after : ℕ) → P ++ (true ∷ none (n + after)) ⊆ P ++ (true ∷ (all n ++ none after))
first_within P n after = subset-append (subset_refl P) (same (rw none-add (subset-append (none_subset_all n) (subset_refl (none after)))))

module _ (ok : Question) (monotone : (X Y : Selection) → X ⊆ Y → ok Y ≡ true → ok X ≡ true) where
  fails_with_more : (X Y : Selection) → X ⊆ Y → ok X ≡ false → ok Y ≡ false
  fails_with_more X Y r h = go (ok Y) refl
    where
      go : (b : Bool) → ok Y ≡ b → ok Y ≡ false
      go true e = absurd (true≢false (sym (monotone X Y r e) ∙ h))
      go false e = e

  -- a part whose ground fails: one by one drops all of it
  settled_conflict : (n before : ℕ) (S : Selection) → ok (all before ++ (none n ++ S)) ≡ false
      → (one_conflict ok (before + n) S).set ≡ (one_conflict ok before (none n ++ S)).set
  unfolding none one_conflict
  settled_conflict zero before S h = rw add-zero
  settled_conflict (suc n) before S h =
      let e : none n ++ (false ∷ S) ≡ none (suc n) ++ S = none_then_none n S in
      let f : ok (all before ++ (none n ++ (false ∷ S))) ≡ false = rw e h in
      let r : all before ++ (none n ++ (false ∷ S)) ⊆ all (before + n) ++ (false ∷ S) = ground_within before n (false ∷ S) in
      let g : ok (all (before + n) ++ (false ∷ S)) ≡ false = fails_with_more _ _ r f in
      rw (add-suc, g) (settled_conflict n before (false ∷ S) f ∙ ap (λ X. (one_conflict ok before X).set) e)

  -- a part that is entered, from what it is when it is worked
  enter_conflict_lem : (n before : ℕ) (ask b : Bool) (S : Selection) (w : Part) → ok (all before ++ (none n ++ S)) ≡ b → (ask ≡ false → b ≡ true)
      → (b ≡ true → (one_conflict ok (before + n) S).set ≡ (one_conflict ok before w.set).set)
      → (one_conflict ok (before + n) S).set ≡ (one_conflict ok before (entered ask b (none n ++ S) w).set).set
  unfolding entered
  enter_conflict_lem n before false b S w e k h = h (k refl)
  enter_conflict_lem n before true true S w e k h = h refl
  enter_conflict_lem n before true false S w e k h = settled_conflict n before S e

  -- where C2 gave nothing, the ground of C1 is that of the whole part
  ground_of_first : (c1 c2 : Tree) (before : ℕ) (S : Selection) → ok (all before ++ (none (size c1 + size c2) ++ S)) ≡ true
      → ltb 0 (halve_conflict ok c2 (before + size c1) true S).found ≡ false
      → ok (all before ++ (none (size c1) ++ (halve_conflict ok c2 (before + size c1) true S).set)) ≡ true
  ground_of_first c1 c2 before S g e =
      let d2 : Part = halve_conflict ok c2 (before + size c1) true S in
      let f : d2.found ≡ 0 = omega (arith, ltb-false 0 d2.found e) in
      rw ((conflict_finds ok c2 (before + size c1) true S).whole f) (rw (none-add, append_assoc) at g)

  -- to work the part, and then the requests before it one by one, is to work all of them one by one
  same_conflict : (t : Tree) (before : ℕ) (ask : Bool) (S : Selection) → (ask ≡ false → ok (all before ++ (none (size t) ++ S)) ≡ true)
      → (one_conflict ok (before + size t) S).set ≡ (one_conflict ok before (halve_conflict ok t before ask S).set).set
  unfolding halve_conflict enter_conflict size
  same_conflict leaf before ask S k = enter_conflict_lem 1 before ask _ S _ refl k (unfold one_conflict none in λ e. rw (add-one, e))
  same_conflict (node c1 c2) before ask S k =
      let d2 : Part = halve_conflict ok c2 (before + size c1) true S in
      enter_conflict_lem (size c1 + size c2) before ask _ S _ refl k
      (λ g. rw (← add_assoc) (same_conflict c2 (before + size c1) true S (λ e. cc)
      ∙ same_conflict c1 before (ltb 0 d2.found) d2.set (ground_of_first c1 c2 before S g)))

  -- a part that stands whole: one by one keeps all of it
  settled_relax : (n : ℕ) (P : Selection) (after : ℕ) → ok (P ++ (all n ++ none after)) ≡ true
      → (one_relax ok P (n + after)).set ≡ (one_relax ok (P ++ all n) after).set
  unfolding all one_relax
  settled_relax zero P after h = rw (zero-add, append-nil)
  settled_relax (suc n) P after h =
      let f : ok ((P ++ (true ∷ [])) ++ (all n ++ none after)) ≡ true = rw append_assoc h in
      let r : P ++ (true ∷ none (n + after)) ⊆ P ++ (true ∷ (all n ++ none after)) = first_within P n after in
      let g : ok (P ++ (true ∷ none (n + after))) ≡ true = monotone _ _ r h in
      rw (suc-add, g) (settled_relax n (P ++ (true ∷ [])) after f ∙ ap (λ X. (one_relax ok X after).set) (append_assoc P (true ∷ []) (all n)))

  enter_relax_lem : (n : ℕ) (P : Selection) (after : ℕ) (ask b : Bool) (w : Part) → ok (P ++ (all n ++ none after)) ≡ b → (ask ≡ false → b ≡ false)
      → (b ≡ false → (one_relax ok P (n + after)).set ≡ (one_relax ok w.set after).set)
      → (one_relax ok P (n + after)).set ≡ (one_relax ok (entered ask (not b) (P ++ all n) w).set after).set
  unfolding entered
  enter_relax_lem n P after false b w e k h = h (k refl)
  enter_relax_lem n P after true false w e k h = h refl
  enter_relax_lem n P after true true w e k h = settled_relax n P after e

  -- where C1 was kept whole, C2 is known to fail
  rest_fails : (c1 c2 : Tree) (P : Selection) (after : ℕ) → ok (P ++ (all (size c1 + size c2) ++ none after)) ≡ false
      → ltb 0 (halve_relax ok c1 P (size c2 + after) true).found ≡ false
      → ok ((halve_relax ok c1 P (size c2 + after) true).set ++ (all (size c2) ++ none after)) ≡ false
  rest_fails c1 c2 P after g e =
      let k1 : Part = halve_relax ok c1 P (size c2 + after) true in
      let f : k1.found ≡ 0 = omega (arith, ltb-false 0 k1.found e) in
      rw ((relax_finds ok c1 P (size c2 + after) true).whole f, append_assoc) (rw (all-add, append_assoc) at g)

  -- to work the part, and then the requests after it one by one, is to work all of them one by one
  same_relax : (t : Tree) (P : Selection) (after : ℕ) (ask : Bool) → (ask ≡ false → ok (P ++ (all (size t) ++ none after)) ≡ false)
      → (one_relax ok P (size t + after)).set ≡ (one_relax ok (halve_relax ok t P after ask).set after).set
  unfolding halve_relax enter_relax size
  same_relax leaf P after ask k =
      enter_relax_lem 1 P after ask _ _ refl k
      (unfold one_relax all in λ e. let one : 1 + after ≡ suc after = omega arith in rw (one, e))
  same_relax (node c1 c2) P after ask k =
      let k1 : Part = halve_relax ok c1 P (size c2 + after) true in
      enter_relax_lem (size c1 + size c2) P after ask _ _ refl k
      (λ g. rw add_assoc (same_relax c1 P (size c2 + after) true (λ e. cc)
      ∙ same_relax c2 k1.set after (ltb 0 k1.found) (rest_fails c1 c2 P after g)))

  pub halving_finds_the_one_by_one_conflict : (t : Tree) → ok (none (size t)) ≡ true
      → (halve_conflict ok t 0 false []).set ≡ (one_conflict ok (size t) []).set
  unfolding one_conflict all
  halving_finds_the_one_by_one_conflict t h = sym (rw zero-add at (same_conflict t 0 false [] (λ e. rw append-nil h)))

  pub halving_finds_the_one_by_one_relaxation : (t : Tree) → ok (all (size t)) ≡ false
      → (halve_relax ok t [] 0 false).set ≡ (one_relax ok [] (size t)).set
  unfolding one_relax none
  halving_finds_the_one_by_one_relaxation t h = sym (rw add-zero at (same_relax t [] 0 false (λ e. rw append-nil h)))
