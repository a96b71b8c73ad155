-- However deep the cuts, a part of n requests finds at most n of them and asks at most 2n questions: what code needs for its sums to fit.
use Rattle.std.proofs.Common.{◌≡◌, refl, Bool, true, false, cond, ℕ, ◌+◌, ◌*◌, ◌≤◌, ◌<◌, arith, ltb}
use Rattle.preference.specs.Selection.{Selection}
use Rattle.preference.specs.Question.{Question}
use Rattle.preference.specs.Part.{Part, together, entered}
use Rattle.preference.specs.Cut.{Tree, leaf, node, size, Cuts, tree_by}
use Rattle.preference.specs.Halving.{halve_conflict, halve_relax, enter_conflict, enter_relax}
use Rattle.preference.proofs.Trees.{size-tree}

-- a tree of n requests has n - 1 cuts, and each asks at most twice
pub record Few (ask : Bool) (n : ℕ) (p : Part) : Type 0 where
  pub found : p.found ≤ n
  pub asked : p.asked + 2 ≤ cond ask 1 0 + 2 * n

entered_few : (ask matters : Bool) (settled : Selection) (w : Part) (n : ℕ) → Few false n w → Few ask n (entered ask matters settled w)
unfolding entered
entered_few false matters settled w n h = h
entered_few true true settled w n h = omega arith
entered_few true false settled w n h = omega arith

together_few : (ask : Bool) (p q : Part) (m n both : ℕ) → both ≡ m + n → Few true m p → Few ask n q → Few false both (together p q)
together_few true p q m n both e h g = omega arith
together_few false p q m n both e h g = omega arith

module _ (ok : Question) where
  few_conflict : (t : Tree) (before : ℕ) (ask : Bool) (S : Selection) → Few ask (size t) (halve_conflict ok t before ask S)
  unfolding halve_conflict enter_conflict size
  few_conflict leaf before ask S = entered_few ask _ _ _ 1 (omega arith)
  few_conflict (node c1 c2) before ask S =
      let d2 : Part = halve_conflict ok c2 (before + size c1) true S in
      let d1 : Part = halve_conflict ok c1 before (ltb 0 d2.found) d2.set in
      entered_few ask _ _ (together d2 d1) (size c1 + size c2)
      (together_few (ltb 0 d2.found) d2 d1 (size c2) (size c1) (size c1 + size c2) (omega arith)
      (few_conflict c2 (before + size c1) true S) (few_conflict c1 before (ltb 0 d2.found) d2.set))

  few_relax : (t : Tree) (P : Selection) (after : ℕ) (ask : Bool) → Few ask (size t) (halve_relax ok t P after ask)
  unfolding halve_relax enter_relax size
  few_relax leaf P after ask = entered_few ask _ _ _ 1 (omega arith)
  few_relax (node c1 c2) P after ask =
      let k1 : Part = halve_relax ok c1 P (size c2 + after) true in
      let k2 : Part = halve_relax ok c2 k1.set after (ltb 0 k1.found) in
      entered_few ask _ _ (together k1 k2) (size c1 + size c2)
      (together_few (ltb 0 k1.found) k1 k2 (size c1) (size c2) (size c1 + size c2) refl
      (few_relax c1 P (size c2 + after) true) (few_relax c2 k1.set after (ltb 0 k1.found)))

  module _ (cut : ℕ → ℕ) (cuts : Cuts cut) (n : ℕ) (some : 0 < n) where
    pub conflict_asks_few : (before : ℕ) (ask : Bool) (S : Selection) → Few ask n (halve_conflict ok (tree_by cut n) before ask S)
    conflict_asks_few before ask S =
        let s : size (tree_by cut n) ≡ n = size-tree cut cuts n some in
        rw s at (few_conflict (tree_by cut n) before ask S)

    pub relax_asks_few : (P : Selection) (after : ℕ) (ask : Bool) → Few ask n (halve_relax ok (tree_by cut n) P after ask)
    relax_asks_few P after ask =
        let s : size (tree_by cut n) ≡ n = size-tree cut cuts n some in
        rw s at (few_relax (tree_by cut n) P after ask)
