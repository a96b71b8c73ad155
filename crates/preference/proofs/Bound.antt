-- How many questions a part of a halving method asks: at most 2kd, where k requests are found and no request lies under more than d cuts.
-- k is the number of requests that a conflict keeps, and that a relaxation drops. No question need be monotone for this.
use Rattle.std.proofs.Common.{◌≡◌, refl, ◌∙◌, Bool, true, false, cond, [], ℕ, zero, suc, ◌+◌, ◌*◌, ◌≤◌, arith, mul-suc, add-mul, ltb, ltb-true, ltb-false}
use Rattle.preference.specs.Selection.{Selection, kept, dropped}
use Rattle.preference.specs.Question.{Question}
use Rattle.preference.specs.Part.{Part, together, entered}
use Rattle.preference.specs.Cut.{Tree, leaf, node, size, Deep}
use Rattle.preference.specs.Halving.{halve_conflict, halve_relax, enter_conflict, enter_relax}
use Rattle.preference.proofs.Selections.{kept_none, dropped-append, dropped-all}
use Rattle.preference.proofs.Found.{conflict_finds, relax_finds}

-- one question for entering, and two for each request found and each cut above it
abbrev pub Bounded : Bool → ℕ → Part → Type 0
Bounded ask d p = p.asked ≤ cond ask 1 0 + 2 * (p.found * d)

entered_bounded : (ask matters : Bool) (settled : Selection) (w : Part) (d : ℕ) → Bounded false d w → Bounded ask d (entered ask matters settled w)
unfolding entered
entered_bounded false matters settled w d h = h
entered_bounded true true settled w d h = omega arith
entered_bounded true false settled w d h = omega arith

-- the sums of two parts, the second entered with a question exactly when the first found something
together_bounded : (d f a g b : ℕ) → a ≤ 1 + 2 * (f * d) → b ≤ cond (ltb 0 f) 1 0 + 2 * (g * d) → (ltb 0 f ≡ false → 1 ≤ g)
    → a + b ≤ 0 + 2 * ((f + g) * suc d)
together_bounded d f a g b p q some = go (ltb 0 f) refl q
  where
    go : (t : Bool) → ltb 0 f ≡ t → b ≤ cond t 1 0 + 2 * (g * d) → a + b ≤ 0 + 2 * ((f + g) * suc d)
    go true e h = omega (arith, mul-suc (f + g) d, add-mul f g d, ltb-true 0 f e)
    go false e h = omega (arith, mul-suc (f + g) d, add-mul f g d, ltb-false 0 f e, some e)

entered_found : (ask matters : Bool) (settled : Selection) (w : Part) (count : Selection → ℕ) (c : ℕ) → count settled ≡ c → count w.set ≡ c + w.found
    → count (entered ask matters settled w).set ≡ c + (entered ask matters settled w).found
unfolding entered
entered_found false matters settled w count c e f = f
entered_found true true settled w count c e f = f
entered_found true false settled w count c e f = omega arith

module _ (ok : Question) where
  pub conflict_bounded : (t : Tree) (d : ℕ) → Deep t d → (before : ℕ) (ask : Bool) (S : Selection) → Bounded ask d (halve_conflict ok t before ask S)
  unfolding halve_conflict enter_conflict
  conflict_bounded leaf d deep before ask S = entered_bounded ask _ _ _ d (omega arith)
  conflict_bounded (node c1 c2) zero deep before ask S = absurd deep
  conflict_bounded (node c1 c2) (suc d) deep before ask S =
      let d2 : Part = halve_conflict ok c2 (before + size c1) true S in
      let d1 : Part = halve_conflict ok c1 before (ltb 0 d2.found) d2.set in
      entered_bounded ask _ _ (together d2 d1) (suc d)
      (together_bounded d d2.found d2.asked d1.found d1.asked (conflict_bounded c2 d deep.1 (before + size c1) true S)
      (conflict_bounded c1 d deep.0 before (ltb 0 d2.found) d2.set) (conflict_finds ok c1 before (ltb 0 d2.found) d2.set).some)

  pub relax_bounded : (t : Tree) (d : ℕ) → Deep t d → (P : Selection) (after : ℕ) (ask : Bool) → Bounded ask d (halve_relax ok t P after ask)
  unfolding halve_relax enter_relax
  relax_bounded leaf d deep P after ask = entered_bounded ask _ _ _ d (omega arith)
  relax_bounded (node c1 c2) zero deep P after ask = absurd deep
  relax_bounded (node c1 c2) (suc d) deep P after ask =
      let k1 : Part = halve_relax ok c1 P (size c2 + after) true in
      let k2 : Part = halve_relax ok c2 k1.set after (ltb 0 k1.found) in
      entered_bounded ask _ _ (together k1 k2) (suc d)
      (together_bounded d k1.found k1.asked k2.found k2.asked (relax_bounded c1 d deep.0 P (size c2 + after) true)
      (relax_bounded c2 d deep.1 k1.set after (ltb 0 k1.found)) (relax_finds ok c2 k1.set after (ltb 0 k1.found)).some)

  pub conflict_found_is_kept : (t : Tree) (before : ℕ) (ask : Bool) (S : Selection)
      → kept (halve_conflict ok t before ask S).set ≡ kept S + (halve_conflict ok t before ask S).found
  unfolding halve_conflict enter_conflict
  conflict_found_is_kept leaf before ask S = entered_found ask _ _ _ kept (kept S) (kept_none 1 S) (unfold kept in omega arith)
  conflict_found_is_kept (node c1 c2) before ask S =
      let d2 : Part = halve_conflict ok c2 (before + size c1) true S in
      entered_found ask _ _ _ kept (kept S) (kept_none (size c1 + size c2) S)
      (omega (arith, conflict_found_is_kept c2 (before + size c1) true S, conflict_found_is_kept c1 before (ltb 0 d2.found) d2.set))

  pub relax_found_is_dropped : (t : Tree) (P : Selection) (after : ℕ) (ask : Bool)
      → dropped (halve_relax ok t P after ask).set ≡ dropped P + (halve_relax ok t P after ask).found
  unfolding halve_relax enter_relax
  relax_found_is_dropped leaf P after ask =
      entered_found ask _ _ _ dropped (dropped P) (simp (dropped-append, dropped-all) (omega arith)) (rw dropped-append (unfold dropped in refl))
  relax_found_is_dropped (node c1 c2) P after ask =
      let k1 : Part = halve_relax ok c1 P (size c2 + after) true in
      entered_found ask _ _ _ dropped (dropped P) (simp (dropped-append, dropped-all) (omega arith))
      (omega (arith, relax_found_is_dropped c1 P (size c2 + after) true, relax_found_is_dropped c2 k1.set after (ltb 0 k1.found)))

  -- all the requests as one part: k is the number of requests in the conflict, and of those left out of the relaxation
  pub conflict_asks_at_most : (t : Tree) (d : ℕ) → Deep t d
      → (halve_conflict ok t 0 false []).asked ≤ 2 * (kept (halve_conflict ok t 0 false []).set * d)
  conflict_asks_at_most t d deep =
      let k : kept (halve_conflict ok t 0 false []).set ≡ (halve_conflict ok t 0 false []).found =
      conflict_found_is_kept t 0 false [] ∙ (unfold kept in omega arith) in
      rw k (omega (arith, conflict_bounded t d deep 0 false []))

  pub relaxation_asks_at_most : (t : Tree) (d : ℕ) → Deep t d
      → (halve_relax ok t [] 0 false).asked ≤ 2 * (dropped (halve_relax ok t [] 0 false).set * d)
  relaxation_asks_at_most t d deep =
      let k : dropped (halve_relax ok t [] 0 false).set ≡ (halve_relax ok t [] 0 false).found =
      relax_found_is_dropped t [] 0 false ∙ (unfold dropped in omega arith) in
      rw k (omega (arith, relax_bounded t d deep [] 0 false))
