-- The definitions of the methods, one law for each way out of a function that carries them out: over plain numbers and lists, at any n.
-- A part of n requests is `halve_conflict ok (tree_by cut n) before ask S`; document 01's is the one with the cut `half`, and no part is empty.
use Rattle.std.proofs.Common.{◌≡◌, refl, ◌∙◌, Bool, true, false, not, cond, [], ◌∷◌, ◌++◌}
use Rattle.std.proofs.Common.{ℕ, zero, suc, ◌+◌, ◌-◌, ◌≤◌, ◌<◌, arith, add-zero, zero-add, add_assoc, ltb}
use Rattle.preference.specs.Selection.{Selection, all, none}
use Rattle.preference.specs.Question.{Question}
use Rattle.preference.specs.Part.{Part, together, entered}
use Rattle.preference.specs.OneByOne.{one_conflict, one_relax, tried_with, tried_without}
use Rattle.preference.specs.Cut.{Tree, leaf, node, size, Cuts, tree_by}
use Rattle.preference.specs.Halving.{halve_conflict, halve_relax, enter_conflict, enter_relax}
use Rattle.preference.proofs.Trees.{tree_of_one, tree-cut, size-tree}

-- For a loop that keeps what is done so far as a part: nothing done, nothing left, and one step more.
pub nothing_done : (S : Selection) (q : Part) → together (record { set = S; found = 0; asked = 0 }) q ≡ q
nothing_done S q = simp zero-add

pub nothing_left : (p : Part) → together p (record { set = p.set; found = 0; asked = 0 }) ≡ p
nothing_left p = simp add-zero

pub one_step_more : (p q r : Part) → together (together p q) r ≡ together p (together q r)
one_step_more p q r = simp add_assoc

-- a part that is worked after the question, where there was one
worked : (ask matters : Bool) (settled : Selection) (w : Part) → (ask ≡ true → matters ≡ true)
    → entered ask matters settled w ≡ record { set = w.set; found = w.found; asked = cond ask 1 0 + w.asked }
unfolding entered
worked false matters settled w h = rw zero-add
worked true true settled w h = let e : 1 + w.asked ≡ suc w.asked = omega arith in rw e
worked true false settled w h = cc (h refl)

module _ (ok : Question) where
  -- One by one, conflict: no request is left to try,
  pub one_conflict_done : (n : ℕ) (S : Selection) → n ≡ 0 → one_conflict ok n S ≡ record { set = S; found = 0; asked = 0 }
  unfolding one_conflict
  one_conflict_done zero S e = refl
  one_conflict_done (suc n) S e = absurd (omega arith)

  -- or the least important one is tried.
  pub one_conflict_turn : (n : ℕ) (S : Selection) (keep : Bool) → 0 < n → ok (all (n - 1) ++ (false ∷ S)) ≡ keep
      → one_conflict ok n S ≡ together (tried_without keep S) (one_conflict ok (n - 1) (keep ∷ S))
  unfolding one_conflict
  one_conflict_turn zero S keep h e = absurd (omega arith)
  one_conflict_turn (suc n) S keep h e = let m : suc n - 1 ≡ n = omega arith in rw (m, ← e, m)

  -- One by one, relaxation: no request is left to try,
  pub one_relax_done : (P : Selection) (n : ℕ) → n ≡ 0 → one_relax ok P n ≡ record { set = P; found = 0; asked = 0 }
  unfolding one_relax
  one_relax_done P zero e = refl
  one_relax_done P (suc n) e = absurd (omega arith)

  -- or the most important one is tried.
  pub one_relax_turn : (P : Selection) (n : ℕ) (keep : Bool) → 0 < n → ok (P ++ (true ∷ none (n - 1))) ≡ keep
      → one_relax ok P n ≡ together (tried_with P keep) (one_relax ok (P ++ (keep ∷ [])) (n - 1))
  unfolding one_relax
  one_relax_turn P zero keep h e = absurd (omega arith)
  one_relax_turn P (suc n) keep h e = let m : suc n - 1 ≡ n = omega arith in rw (m, ← e, m)

  settled_conflict : (t : Tree) (before : ℕ) (S : Selection) → ok (all before ++ (none (size t) ++ S)) ≡ false
      → halve_conflict ok t before true S ≡ record { set = none (size t) ++ S; found = 0; asked = 1 }
  unfolding halve_conflict enter_conflict entered size
  settled_conflict leaf before S e = rw e
  settled_conflict (node a b) before S e = rw e

  one_request_conflict : (before : ℕ) (S : Selection) (ask : Bool) → (ask ≡ true → ok (all before ++ (none 1 ++ S)) ≡ true)
      → halve_conflict ok leaf before ask S ≡ record { set = true ∷ S; found = 1; asked = cond ask 1 0 }
  unfolding halve_conflict enter_conflict
  one_request_conflict before S ask e = worked ask _ _ _ e ∙ rw add-zero

  cut_conflict : (a b : Tree) (before : ℕ) (S : Selection) (ask : Bool) → (ask ≡ true → ok (all before ++ (none (size a + size b) ++ S)) ≡ true)
      → (d2 d1 : Part) → halve_conflict ok b (before + size a) true S ≡ d2 → halve_conflict ok a before (ltb 0 d2.found) d2.set ≡ d1
      → halve_conflict ok (node a b) before ask S
      ≡ record { set = d1.set; found = d2.found + d1.found; asked = cond ask 1 0 + (d2.asked + d1.asked) }
  unfolding halve_conflict enter_conflict
  cut_conflict a b before S ask e d2 d1 f g = rw (f, g) (worked ask _ _ (together d2 d1) e)

  module _ (cut : ℕ → ℕ) (cuts : Cuts cut) (n before : ℕ) (S : Selection) where
    -- Halving, conflict: the ground was asked and cannot stand, so the part gives nothing;
    pub conflict_gives_nothing : 0 < n → ok (all before ++ (none n ++ S)) ≡ false
        → halve_conflict ok (tree_by cut n) before true S ≡ record { set = none n ++ S; found = 0; asked = 1 }
    conflict_gives_nothing h e =
        let s : size (tree_by cut n) ≡ n = size-tree cut cuts n h in
        rw s at (settled_conflict (tree_by cut n) before S (rw s e))

    -- else a part of one gives that request;
    pub conflict_gives_the_request : n ≡ 1 → (ask : Bool) → (ask ≡ true → ok (all before ++ (none n ++ S)) ≡ true)
        → halve_conflict ok (tree_by cut n) before ask S ≡ record { set = true ∷ S; found = 1; asked = cond ask 1 0 }
    conflict_gives_the_request one ask e = rw (tree_of_one cut n one) (one_request_conflict before S ask (rw one at e))

    -- else it is cut: C2 is worked with C1 added to the ground, and then C1 with what C2 gave.
    pub conflict_is_cut : 2 ≤ n → (ask : Bool) → (ask ≡ true → ok (all before ++ (none n ++ S)) ≡ true) → (d2 d1 : Part)
        → halve_conflict ok (tree_by cut (n - cut n)) (before + cut n) true S ≡ d2
        → halve_conflict ok (tree_by cut (cut n)) before (ltb 0 d2.found) d2.set ≡ d1
        → halve_conflict ok (tree_by cut n) before ask S
        ≡ record { set = d1.set; found = d2.found + d1.found; asked = cond ask 1 0 + (d2.asked + d1.asked) }
    conflict_is_cut h ask e d2 d1 f g =
        let a : size (tree_by cut (cut n)) ≡ cut n = size-tree cut cuts (cut n) (cuts n h).0 in
        let b : size (tree_by cut (n - cut n)) ≡ n - cut n = size-tree cut cuts (n - cut n) (omega (arith, cuts n h)) in
        let s : size (tree_by cut (cut n)) + size (tree_by cut (n - cut n)) ≡ n = omega (arith, cuts n h) in
        rw (tree-cut cut cuts n h)
        (cut_conflict (tree_by cut (cut n)) (tree_by cut (n - cut n)) before S ask (rw s e) d2 d1 (rw a f) g)

  settled_relax : (t : Tree) (P : Selection) (after : ℕ) → ok (P ++ (all (size t) ++ none after)) ≡ true
      → halve_relax ok t P after true ≡ record { set = P ++ all (size t); found = 0; asked = 1 }
  unfolding halve_relax enter_relax entered size
  settled_relax leaf P after e = rw e
  settled_relax (node a b) P after e = rw e

  -- a question whose answer is no says that the part matters
  no_matters : (ask : Bool) (X : Selection) → (ask ≡ true → ok X ≡ false) → ask ≡ true → not (ok X) ≡ true
  no_matters ask X e h = rw (e h)

  one_request_relax : (P : Selection) (after : ℕ) (ask : Bool) → (ask ≡ true → ok (P ++ (all 1 ++ none after)) ≡ false)
      → halve_relax ok leaf P after ask ≡ record { set = P ++ (false ∷ []); found = 1; asked = cond ask 1 0 }
  unfolding halve_relax enter_relax
  one_request_relax P after ask e = worked ask _ _ _ (no_matters ask (P ++ (all 1 ++ none after)) e) ∙ rw add-zero

  cut_relax : (a b : Tree) (P : Selection) (after : ℕ) (ask : Bool) → (ask ≡ true → ok (P ++ (all (size a + size b) ++ none after)) ≡ false)
      → (k1 k2 : Part) → halve_relax ok a P (size b + after) true ≡ k1 → halve_relax ok b k1.set after (ltb 0 k1.found) ≡ k2
      → halve_relax ok (node a b) P after ask
      ≡ record { set = k2.set; found = k1.found + k2.found; asked = cond ask 1 0 + (k1.asked + k2.asked) }
  unfolding halve_relax enter_relax
  cut_relax a b P after ask e k1 k2 f g =
      rw (f, g) (worked ask _ _ (together k1 k2) (no_matters ask (P ++ (all (size a + size b) ++ none after)) e))

  module _ (cut : ℕ → ℕ) (cuts : Cuts cut) (P : Selection) (n after : ℕ) where
    -- Halving, relaxation: the part was asked and stands whole, so it is kept;
    pub relax_keeps_the_part : 0 < n → ok (P ++ (all n ++ none after)) ≡ true
        → halve_relax ok (tree_by cut n) P after true ≡ record { set = P ++ all n; found = 0; asked = 1 }
    relax_keeps_the_part h e =
        let s : size (tree_by cut n) ≡ n = size-tree cut cuts n h in
        rw s at (settled_relax (tree_by cut n) P after (rw s e))

    -- else it is known to fail: a part of one is dropped;
    pub relax_drops_the_request : n ≡ 1 → (ask : Bool) → (ask ≡ true → ok (P ++ (all n ++ none after)) ≡ false)
        → halve_relax ok (tree_by cut n) P after ask ≡ record { set = P ++ (false ∷ []); found = 1; asked = cond ask 1 0 }
    relax_drops_the_request one ask e = rw (tree_of_one cut n one) (one_request_relax P after ask (rw one at e))

    -- else it is cut: C1 is asked first, and then C2 on what was kept, with a question exactly where C1 was not kept whole.
    pub relax_is_cut : 2 ≤ n → (ask : Bool) → (ask ≡ true → ok (P ++ (all n ++ none after)) ≡ false) → (k1 k2 : Part)
        → halve_relax ok (tree_by cut (cut n)) P ((n - cut n) + after) true ≡ k1
        → halve_relax ok (tree_by cut (n - cut n)) k1.set after (ltb 0 k1.found) ≡ k2
        → halve_relax ok (tree_by cut n) P after ask
        ≡ record { set = k2.set; found = k1.found + k2.found; asked = cond ask 1 0 + (k1.asked + k2.asked) }
    relax_is_cut h ask e k1 k2 f g =
        let a : size (tree_by cut (cut n)) ≡ cut n = size-tree cut cuts (cut n) (cuts n h).0 in
        let b : size (tree_by cut (n - cut n)) ≡ n - cut n = size-tree cut cuts (n - cut n) (omega (arith, cuts n h)) in
        let s : size (tree_by cut (cut n)) + size (tree_by cut (n - cut n)) ≡ n = omega (arith, cuts n h) in
        rw (tree-cut cut cuts n h)
        (cut_relax (tree_by cut (cut n)) (tree_by cut (n - cut n)) P after ask (rw s e) k1 k2 (rw b f) g)
