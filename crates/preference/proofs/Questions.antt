-- The methods ask about selections of the n requests and nothing else: two questions that agree on those give equal answers, counts included.
use Rattle.std.proofs.Common.{◌≡◌, refl, ap, ap₂, ◌∙◌, Bool, true, false, not, [], ◌∷◌, ◌++◌, ℕ, zero, suc, ◌+◌, ◌<◌, arith, length, length-append, ltb}
use Rattle.preference.specs.Selection.{Selection, all, none}
use Rattle.preference.specs.Question.{Question, Agree}
use Rattle.preference.specs.Part.{Part, together, entered}
use Rattle.preference.specs.OneByOne.{one_conflict, one_relax, tried_with, tried_without}
use Rattle.preference.specs.Cut.{Tree, leaf, node, size}
use Rattle.preference.specs.Halving.{halve_conflict, halve_relax, enter_conflict, enter_relax}
use Rattle.preference.specs.Answer.{answered}
use Rattle.preference.proofs.Selections.{length-all, length_none}
use Rattle.preference.proofs.Lengths.{length_halve_conflict, length_halve_relax}

-- where there are no requests, nothing is worked
pub answered_unless_empty : (ok : Question) (n : ℕ) (whole : Selection) (p q : Part) → (0 < n → p ≡ q) → answered ok n whole p ≡ answered ok n whole q
unfolding answered
answered_unless_empty ok zero whole p q e = refl
answered_unless_empty ok (suc n) whole p q e = ap (answered ok (suc n) whole) (e (omega arith))

module _ (ok other : Question) (n : ℕ) (agree : Agree n ok other) where
  pub one_conflict_agrees : (m : ℕ) (S : Selection) → m + length S ≡ n → one_conflict ok m S ≡ one_conflict other m S
  unfolding one_conflict
  one_conflict_agrees zero S h = refl
  one_conflict_agrees (suc m) S h =
      rw (agree (all m ++ (false ∷ S)) (simp (length-append, length-all) (omega arith)))
      (ap (λ p. together (tried_without (other (all m ++ (false ∷ S))) S) p)
      (one_conflict_agrees m (other (all m ++ (false ∷ S)) ∷ S) (omega arith)))

  pub one_relax_agrees : (P : Selection) (m : ℕ) → length P + m ≡ n → one_relax ok P m ≡ one_relax other P m
  unfolding one_relax
  one_relax_agrees P zero h = refl
  one_relax_agrees P (suc m) h =
      rw (agree (P ++ (true ∷ none m)) (simp (length-append, length_none) (omega arith)))
      (ap (λ p. together (tried_with P (other (P ++ (true ∷ none m)))) p)
      (one_relax_agrees (P ++ (other (P ++ (true ∷ none m)) ∷ [])) m (simp length-append (omega arith))))

  pub halve_conflict_agrees : (t : Tree) (before : ℕ) (ask : Bool) (S : Selection) → (before + size t) + length S ≡ n
      → halve_conflict ok t before ask S ≡ halve_conflict other t before ask S
  unfolding halve_conflict enter_conflict size
  halve_conflict_agrees leaf before ask S h =
      ap (λ b. entered ask b (none 1 ++ S) (record { set = true ∷ S; found = 1; asked = 0 }))
      (agree (all before ++ (none 1 ++ S)) (simp (length-append, length-all, length_none) (omega arith)))
  halve_conflict_agrees (node c1 c2) before ask S h =
      let d2 : Part = halve_conflict other c2 (before + size c1) true S in
      ap₂ (λ b w. entered ask b (none (size c1 + size c2) ++ S) w)
      (agree (all before ++ (none (size c1 + size c2) ++ S)) (simp (length-append, length-all, length_none) (omega arith)))
      (ap (λ p. together p (halve_conflict ok c1 before (ltb 0 p.found) p.set)) (halve_conflict_agrees c2 (before + size c1) true S (omega arith))
      ∙ ap (λ p. together d2 p) (halve_conflict_agrees c1 before (ltb 0 d2.found) d2.set
      (omega (arith, length_halve_conflict other c2 (before + size c1) true S))))

  pub halve_relax_agrees : (t : Tree) (P : Selection) (after : ℕ) (ask : Bool) → (length P + size t) + after ≡ n
      → halve_relax ok t P after ask ≡ halve_relax other t P after ask
  unfolding halve_relax enter_relax size
  halve_relax_agrees leaf P after ask h =
      ap (λ b. entered ask (not b) (P ++ all 1) (record { set = P ++ (false ∷ []); found = 1; asked = 0 }))
      (agree (P ++ (all 1 ++ none after)) (simp (length-append, length-all, length_none) (omega arith)))
  halve_relax_agrees (node c1 c2) P after ask h =
      let k1 : Part = halve_relax other c1 P (size c2 + after) true in
      ap₂ (λ b w. entered ask (not b) (P ++ all (size c1 + size c2)) w)
      (agree (P ++ (all (size c1 + size c2) ++ none after)) (simp (length-append, length-all, length_none) (omega arith)))
      (ap (λ p. together p (halve_relax ok c2 p.set after (ltb 0 p.found))) (halve_relax_agrees c1 P (size c2 + after) true (omega arith))
      ∙ ap (λ p. together k1 p) (halve_relax_agrees c2 k1.set after (ltb 0 k1.found)
      (omega (arith, length_halve_relax other c1 P (size c2 + after) true))))

  pub answered_agrees : (whole : Selection) (p q : Part) → (0 < n → p ≡ q) → answered ok n whole p ≡ answered other n whole q
  answered_agrees whole p q e =
      rw (answered_unless_empty ok n whole p q e) (unfold answered in rw (agree (all n) (length-all n), agree (none n) (length_none n)))
