-- The theorems about a relaxation, over the whole calls: each name reads as its statement.
use Rattle.std.proofs.Common.{◌≡◌, sym, ◌∙◌, true, false, true≢false, [], ℕ, ◌+◌, ◌*◌, ◌^◌, ◌≤◌, arith, length, get_or}
use Rattle.preference.specs.Selection.{Selection, all, none, dropped}
use Rattle.preference.specs.Question.{Question, Monotone, Agree, Relaxation}
use Rattle.preference.specs.Preference.{PreferredRelaxation}
use Rattle.preference.specs.OneByOne.{one_relax}
use Rattle.preference.specs.Cut.{Tree, TreeFor, Cuts, tree_by, half, middle}
use Rattle.preference.specs.Halving.{halve_relax}
use Rattle.preference.specs.Answer.{SameAnswer, relaxation_one_by_one, relaxation_over, relaxation_by_cut, relaxation_by_halving}
use Rattle.preference.specs.Depth.{depths}
use Rattle.preference.proofs.Selections.{length-all, none-subset, get_or-all}
use Rattle.preference.proofs.Trees.{size-tree, half_cuts, middle_is_deep}
use Rattle.preference.proofs.Preferred.{one_relax_asks_each, one_by_one_finds_the_preferred_relaxation}
use Rattle.preference.proofs.EveryCut.{halving_relaxation_is_one_by_one}
use Rattle.preference.proofs.Bound.{relaxation_asks_at_most}
use Rattle.preference.proofs.Questions.{answered_agrees, one_relax_agrees, halve_relax_agrees}
use Rattle.preference.proofs.Depths.{depths_keep_their_rule}
use Rattle.preference.proofs.Start.{by_start, same_answer}

module _ (ok : Question) (n : ℕ) where
  -- where all can stand, nothing is left out
  all_requests_are_preferred : ok (all n) ≡ true → PreferredRelaxation ok n (all n)
  all_requests_are_preferred h =
      record {
        relaxation = record { over = length-all n; stands = h };
        none_before = λ Y c l. true≢false (sym (get_or-all n l.place) ∙ l.left_out);
      }

  module _ (monotone : Monotone ok n) where
    -- Proposition 5: where the host cannot stand there is no relaxation
    pub no_relaxation_where_the_host_fails : ok (none n) ≡ false → (X : Selection) → Relaxation ok n X → ⊥
    no_relaxation_where_the_host_fails h X c =
        let e : length X ≡ n = c.over in
        true≢false (sym (monotone (none n) X e (rw e at (none-subset X)) c.stands) ∙ h)

    -- where the host can stand, one by one gives the preferred relaxation, also where all can stand
    pub one_by_one_relaxation_is_preferred : ok (none n) ≡ true → PreferredRelaxation ok n (relaxation_one_by_one ok n).set
    one_by_one_relaxation_is_preferred =
        by_start ok n (all n) (one_relax ok [] n) (λ a. ok (none n) ≡ true → PreferredRelaxation ok n a.set) (λ h f. all_requests_are_preferred h)
        (λ h z g f. cc) (λ h p g f. cc)
        (λ h p g f. one_by_one_finds_the_preferred_relaxation ok n monotone g)

    -- halving gives the same status and the same relaxation for every way of cutting
    pub halving_relaxation_over_any_tree : (t : Tree) → TreeFor n t → SameAnswer (relaxation_over t ok n) (relaxation_one_by_one ok n)
    halving_relaxation_over_any_tree t sized =
        same_answer ok n (all n) _ _ (λ h p g. halving_relaxation_is_one_by_one ok n monotone t (sized p) h)

    pub halving_relaxation_by_any_cut : (cut : ℕ → ℕ) → Cuts cut → SameAnswer (relaxation_by_cut cut ok n) (relaxation_one_by_one ok n)
    halving_relaxation_by_any_cut cut cuts = halving_relaxation_over_any_tree (tree_by cut n) (size-tree cut cuts n)

    pub halving_relaxation_gives_the_one_by_one_relaxation : SameAnswer (relaxation_by_halving ok n) (relaxation_one_by_one ok n)
    halving_relaxation_gives_the_one_by_one_relaxation = halving_relaxation_by_any_cut half half_cuts

    -- halving gives the preferred relaxation
    pub halving_relaxation_is_preferred : (cut : ℕ → ℕ) → Cuts cut → ok (none n) ≡ true → PreferredRelaxation ok n (relaxation_by_cut cut ok n).set
    halving_relaxation_is_preferred cut cuts h = rw (halving_relaxation_by_any_cut cut cuts).set (one_by_one_relaxation_is_preferred h)

  -- where the method works, one by one asks N + 2 questions
  pub one_by_one_relaxation_count : (relaxation_one_by_one ok n).status ≡ 1 → (relaxation_one_by_one ok n).asked ≡ n + 2
  one_by_one_relaxation_count =
      by_start ok n (all n) (one_relax ok [] n) (λ a. a.status ≡ 1 → a.asked ≡ n + 2) (λ h e. absurd (omega arith)) (λ h z g e. absurd (omega arith))
      (λ h p g e. absurd (omega arith)) (λ h p g e. omega (arith, one_relax_asks_each ok [] n))

  -- halving by the middle asks at most 2 + 2kd questions: k requests are left out of the relaxation, and 2^d is at least N
  pub halving_relaxation_count : (d : ℕ) → n ≤ 2 ^ d → (relaxation_by_halving ok n).asked ≤ 2 + 2 * (dropped (relaxation_by_halving ok n).set * d)
  halving_relaxation_count d deep =
      by_start ok n (all n) (halve_relax ok (middle n) [] 0 false) (λ a. a.asked ≤ 2 + 2 * (dropped a.set * d)) (λ h. omega arith)
      (λ h z g. omega arith) (λ h p g. omega arith) (λ h p g. omega (arith, relaxation_asks_at_most ok (middle n) d (middle_is_deep d n deep)))

  -- the same with d read from the list
  pub halving_relaxation_count_by_the_list :
      n ≤ 64 → (relaxation_by_halving ok n).asked ≤ 2 + 2 * (dropped (relaxation_by_halving ok n).set * get_or depths n 0)
  halving_relaxation_count_by_the_list h = halving_relaxation_count (get_or depths n 0) (depths_keep_their_rule n h).enough

  -- with no relaxation it asks at most 2
  pub no_relaxation_count : (relaxation_by_halving ok n).status ≡ 2 → (relaxation_by_halving ok n).asked ≤ 2
  no_relaxation_count =
      by_start ok n (all n) (halve_relax ok (middle n) [] 0 false) (λ a. a.status ≡ 2 → a.asked ≤ 2) (λ h e. omega arith) (λ h z g e. omega arith)
      (λ h p g e. omega arith) (λ h p g e. absurd (omega arith))

  -- two questions that agree on the selections of n requests give equal answers, counts included
  module _ (other : Question) (agree : Agree n ok other) where
    pub one_by_one_relaxation_asks_nothing_else : relaxation_one_by_one ok n ≡ relaxation_one_by_one other n
    one_by_one_relaxation_asks_nothing_else = answered_agrees ok other n agree (all n) _ _ (λ p. one_relax_agrees ok other n agree [] n (omega arith))

    pub halving_relaxation_asks_nothing_else : (cut : ℕ → ℕ) → Cuts cut → relaxation_by_cut cut ok n ≡ relaxation_by_cut cut other n
    halving_relaxation_asks_nothing_else cut cuts =
        answered_agrees ok other n agree (all n) _ _
        (λ p. halve_relax_agrees ok other n agree (tree_by cut n) [] 0 false (omega (arith, size-tree cut cuts n p)))
