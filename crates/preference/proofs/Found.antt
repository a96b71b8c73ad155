-- What a part of a halving method finds: a part that is worked finds a request, and a part that finds none was settled whole.
use Rattle.std.proofs.Common.{◌≡◌, refl, Bool, true, false, ◌++◌, ℕ, ◌+◌, ◌≤◌, arith, ltb, ltb-true}
use Rattle.preference.specs.Selection.{Selection, all, none}
use Rattle.preference.specs.Question.{Question}
use Rattle.preference.specs.Part.{Part, together, entered}
use Rattle.preference.specs.Cut.{Tree, leaf, node, size}
use Rattle.preference.specs.Halving.{halve_conflict, halve_relax, enter_conflict, enter_relax}

pub record Finds (ask : Bool) (settled : Selection) (p : Part) : Type 0 where
  pub some : ask ≡ false → 1 ≤ p.found
  pub whole : p.found ≡ 0 → p.set ≡ settled

entered_finds : (ask matters : Bool) (settled : Selection) (w : Part) → 1 ≤ w.found → Finds ask settled (entered ask matters settled w)
unfolding entered
entered_finds false matters settled w h = record { some = λ e. h; whole = λ e. absurd (omega arith) }
entered_finds true true settled w h = record { some = λ e. h; whole = λ e. absurd (omega arith) }
entered_finds true false settled w h = record { some = λ e. cc; whole = λ e. refl }

-- two parts, the second entered with a question exactly when the first found something
together_finds : (f g : ℕ) → (ltb 0 f ≡ false → 1 ≤ g) → 1 ≤ f + g
together_finds f g h = go (ltb 0 f) refl
  where
    go : (t : Bool) → ltb 0 f ≡ t → 1 ≤ f + g
    go true e = omega (arith, ltb-true 0 f e)
    go false e = omega (arith, h e)

module _ (ok : Question) where
  pub conflict_finds : (t : Tree) (before : ℕ) (ask : Bool) (S : Selection) → Finds ask (none (size t) ++ S) (halve_conflict ok t before ask S)
  unfolding halve_conflict enter_conflict size
  conflict_finds leaf before ask S = entered_finds ask _ _ _ (omega arith)
  conflict_finds (node c1 c2) before ask S =
      let d2 : Part = halve_conflict ok c2 (before + size c1) true S in
      let d1 : Part = halve_conflict ok c1 before (ltb 0 d2.found) d2.set in
      entered_finds ask _ _ (together d2 d1)
      (together_finds d2.found d1.found (conflict_finds c1 before (ltb 0 d2.found) d2.set).some)

  pub relax_finds : (t : Tree) (P : Selection) (after : ℕ) (ask : Bool) → Finds ask (P ++ all (size t)) (halve_relax ok t P after ask)
  unfolding halve_relax enter_relax size
  relax_finds leaf P after ask = entered_finds ask _ _ _ (omega arith)
  relax_finds (node c1 c2) P after ask =
      let k1 : Part = halve_relax ok c1 P (size c2 + after) true in
      let k2 : Part = halve_relax ok c2 k1.set after (ltb 0 k1.found) in
      entered_finds ask _ _ (together k1 k2)
      (together_finds k1.found k2.found (relax_finds c2 k1.set after (ltb 0 k1.found)).some)
