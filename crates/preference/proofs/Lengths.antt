-- Every set that a method gives is a selection of all its requests.
use Rattle.std.proofs.Common.{◌≡◌, Bool, true, false, [], ◌∷◌, ◌++◌, ℕ, zero, suc, ◌+◌, ◌<◌, arith, length, length-append, ltb}
use Rattle.preference.specs.Selection.{Selection, all, none}
use Rattle.preference.specs.Question.{Question}
use Rattle.preference.specs.Part.{Part, entered}
use Rattle.preference.specs.OneByOne.{one_conflict, one_relax}
use Rattle.preference.specs.Cut.{Tree, leaf, node, size, Cuts, tree_by}
use Rattle.preference.specs.Halving.{halve_conflict, halve_relax, enter_conflict, enter_relax}
use Rattle.preference.specs.Answer.{answered, conflict_one_by_one, relaxation_one_by_one, conflict_by_cut, relaxation_by_cut}
use Rattle.preference.proofs.Selections.{length-all, length_none}
use Rattle.preference.proofs.Trees.{size-tree}
use Rattle.preference.proofs.Start.{by_start}

length-entered : (ask matters : Bool) (settled : Selection) (w : Part) (m : ℕ) → length settled ≡ m → length w.set ≡ m
    → length (entered ask matters settled w).set ≡ m
unfolding entered
length-entered false matters settled w m e f = f
length-entered true true settled w m e f = f
length-entered true false settled w m e f = e

module _ (ok : Question) where
  pub length_one_conflict : (n : ℕ) (S : Selection) → length (one_conflict ok n S).set ≡ n + length S
  unfolding one_conflict
  length_one_conflict zero S = omega arith
  length_one_conflict (suc n) S = omega (arith, length_one_conflict n (ok (all n ++ (false ∷ S)) ∷ S))

  pub length_one_relax : (P : Selection) (n : ℕ) → length (one_relax ok P n).set ≡ length P + n
  unfolding one_relax
  length_one_relax P zero = omega arith
  length_one_relax P (suc n) =
      let keep : Bool = ok (P ++ (true ∷ none n)) in
      omega (arith, length_one_relax (P ++ (keep ∷ [])) n, length-append P (keep ∷ []))

  pub length_halve_conflict : (t : Tree) (before : ℕ) (ask : Bool) (S : Selection)
      → length (halve_conflict ok t before ask S).set ≡ size t + length S
  unfolding halve_conflict enter_conflict size
  length_halve_conflict leaf before ask S = length-entered ask _ _ _ _ (simp (length-append, length_none)) (omega arith)
  length_halve_conflict (node c1 c2) before ask S =
      let d2 : Part = halve_conflict ok c2 (before + size c1) true S in
      length-entered ask _ _ _ _ (simp (length-append, length_none))
      (omega (arith, length_halve_conflict c1 before (ltb 0 d2.found) d2.set, length_halve_conflict c2 (before + size c1) true S))

  pub length_halve_relax : (t : Tree) (P : Selection) (after : ℕ) (ask : Bool) → length (halve_relax ok t P after ask).set ≡ length P + size t
  unfolding halve_relax enter_relax size
  length_halve_relax leaf P after ask = length-entered ask _ _ _ _ (simp (length-append, length-all)) (simp length-append)
  length_halve_relax (node c1 c2) P after ask =
      let k1 : Part = halve_relax ok c1 P (size c2 + after) true in
      length-entered ask _ _ _ _ (simp (length-append, length-all))
      (omega (arith, length_halve_relax c2 k1.set after (ltb 0 k1.found), length_halve_relax c1 P (size c2 + after) true))

  module _ (n : ℕ) where
    -- the set of an answer, from that of the part that was worked
    length_answered : (whole : Selection) (w : Part) → length whole ≡ n → (0 < n → length w.set ≡ n) → length (answered ok n whole w).set ≡ n
    length_answered whole w e f = by_start ok n whole w (λ a. length a.set ≡ n) (λ h. e) (λ h z g. length_none n) (λ h p g. length_none n) (λ h p g. f p)

    pub length_conflict_one_by_one : length (conflict_one_by_one ok n).set ≡ n
    length_conflict_one_by_one = length_answered (none n) _ (length_none n) (λ p. omega (arith, length_one_conflict n []))

    pub length_relaxation_one_by_one : length (relaxation_one_by_one ok n).set ≡ n
    length_relaxation_one_by_one = length_answered (all n) _ (length-all n) (λ p. omega (arith, length_one_relax [] n))

    pub length_conflict_by_cut : (cut : ℕ → ℕ) → Cuts cut → length (conflict_by_cut cut ok n).set ≡ n
    length_conflict_by_cut cut cuts =
        length_answered (none n) _ (length_none n) (λ p. omega (arith, length_halve_conflict (tree_by cut n) 0 false [], size-tree cut cuts n p))

    pub length_relaxation_by_cut : (cut : ℕ → ℕ) → Cuts cut → length (relaxation_by_cut cut ok n).set ≡ n
    length_relaxation_by_cut cut cuts =
        length_answered (all n) _ (length-all n) (λ p. omega (arith, length_halve_relax (tree_by cut n) [] 0 false, size-tree cut cuts n p))
