-- The theorems about a conflict, over the whole calls: each name reads as its statement.
use Rattle.std.proofs.Common.{◌≡◌, sym, ◌∙◌, true, false, true≢false, [], ℕ, ◌+◌, ◌*◌, ◌^◌, ◌≤◌, arith, length, get_or}
use Rattle.preference.specs.Selection.{Selection, all, none, kept}
use Rattle.preference.specs.Question.{Question, Monotone, Agree, Conflict}
use Rattle.preference.specs.Preference.{PreferredConflict}
use Rattle.preference.specs.OneByOne.{one_conflict}
use Rattle.preference.specs.Cut.{Tree, TreeFor, Cuts, tree_by, half, middle}
use Rattle.preference.specs.Halving.{halve_conflict}
use Rattle.preference.specs.Answer.{SameAnswer, conflict_one_by_one, conflict_over, conflict_by_cut, conflict_by_halving}
use Rattle.preference.specs.Depth.{depths}
use Rattle.preference.proofs.Selections.{length-all, length_none, subset-all, get_or-none}
use Rattle.preference.proofs.Trees.{size-tree, half_cuts, middle_is_deep}
use Rattle.preference.proofs.Preferred.{one_conflict_asks_each, one_by_one_finds_the_preferred_conflict}
use Rattle.preference.proofs.EveryCut.{halving_conflict_is_one_by_one}
use Rattle.preference.proofs.Bound.{conflict_asks_at_most}
use Rattle.preference.proofs.Questions.{answered_agrees, one_conflict_agrees, halve_conflict_agrees}
use Rattle.preference.proofs.Depths.{depths_keep_their_rule}
use Rattle.preference.proofs.Start.{by_start, same_answer}

module _ (ok : Question) (n : ℕ) where
  -- where the host cannot stand, no request is needed for a conflict
  no_request_is_preferred : ok (none n) ≡ false → PreferredConflict ok n (none n)
  no_request_is_preferred h =
      record {
        conflict = record { over = length_none n; fails = h };
        none_before = λ Y c l. true≢false (sym l.chosen ∙ get_or-none n l.place);
      }

  module _ (monotone : Monotone ok n) where
    -- Proposition 5: where all can stand there is no conflict
    pub no_conflict_where_all_stand : ok (all n) ≡ true → (X : Selection) → Conflict ok n X → ⊥
    no_conflict_where_all_stand h X c =
        let e : length X ≡ n = c.over in
        true≢false (sym (monotone X (all n) (length-all n) (rw e at (subset-all X)) h) ∙ c.fails)

    -- where not all can stand, one by one gives the preferred conflict, also where the host cannot stand
    pub one_by_one_conflict_is_preferred : ok (all n) ≡ false → PreferredConflict ok n (conflict_one_by_one ok n).set
    one_by_one_conflict_is_preferred =
        by_start ok n (none n) (one_conflict ok n []) (λ a. ok (all n) ≡ false → PreferredConflict ok n a.set)
        (λ h f. cc) (λ h z g f. no_request_is_preferred g) (λ h p g f. no_request_is_preferred g)
        (λ h p g f. one_by_one_finds_the_preferred_conflict ok n monotone h)

    -- halving gives the same status and the same conflict for every way of cutting
    pub halving_conflict_over_any_tree : (t : Tree) → TreeFor n t → SameAnswer (conflict_over t ok n) (conflict_one_by_one ok n)
    halving_conflict_over_any_tree t sized =
        same_answer ok n (none n) _ _ (λ h p g. halving_conflict_is_one_by_one ok n monotone t (sized p) g)

    pub halving_conflict_by_any_cut : (cut : ℕ → ℕ) → Cuts cut → SameAnswer (conflict_by_cut cut ok n) (conflict_one_by_one ok n)
    halving_conflict_by_any_cut cut cuts = halving_conflict_over_any_tree (tree_by cut n) (size-tree cut cuts n)

    pub halving_conflict_gives_the_one_by_one_conflict : SameAnswer (conflict_by_halving ok n) (conflict_one_by_one ok n)
    halving_conflict_gives_the_one_by_one_conflict = halving_conflict_by_any_cut half half_cuts

    -- Theorem 1: halving gives the preferred conflict
    pub halving_conflict_is_preferred : (cut : ℕ → ℕ) → Cuts cut → ok (all n) ≡ false → PreferredConflict ok n (conflict_by_cut cut ok n).set
    halving_conflict_is_preferred cut cuts h = rw (halving_conflict_by_any_cut cut cuts).set (one_by_one_conflict_is_preferred h)

  -- where the method works, one by one asks N + 2 questions
  pub one_by_one_conflict_count : (conflict_one_by_one ok n).status ≡ 1 → (conflict_one_by_one ok n).asked ≡ n + 2
  one_by_one_conflict_count =
      by_start ok n (none n) (one_conflict ok n []) (λ a. a.status ≡ 1 → a.asked ≡ n + 2) (λ h e. absurd (omega arith)) (λ h z g e. absurd (omega arith))
      (λ h p g e. absurd (omega arith)) (λ h p g e. omega (arith, one_conflict_asks_each ok n []))

  -- halving by the middle asks at most 2 + 2kd questions: k requests are in the conflict, and 2^d is at least N
  pub halving_conflict_count : (d : ℕ) → n ≤ 2 ^ d → (conflict_by_halving ok n).asked ≤ 2 + 2 * (kept (conflict_by_halving ok n).set * d)
  halving_conflict_count d deep =
      by_start ok n (none n) (halve_conflict ok (middle n) 0 false []) (λ a. a.asked ≤ 2 + 2 * (kept a.set * d)) (λ h. omega arith)
      (λ h z g. omega arith) (λ h p g. omega arith)
      (λ h p g. omega (arith, conflict_asks_at_most ok (middle n) d (middle_is_deep d n deep)))

  -- the same with d read from the list
  pub halving_conflict_count_by_the_list : n ≤ 64 → (conflict_by_halving ok n).asked ≤ 2 + 2 * (kept (conflict_by_halving ok n).set * get_or depths n 0)
  halving_conflict_count_by_the_list h = halving_conflict_count (get_or depths n 0) (depths_keep_their_rule n h).enough

  -- two questions that agree on the selections of n requests give equal answers, counts included
  module _ (other : Question) (agree : Agree n ok other) where
    pub one_by_one_conflict_asks_nothing_else : conflict_one_by_one ok n ≡ conflict_one_by_one other n
    one_by_one_conflict_asks_nothing_else = answered_agrees ok other n agree (none n) _ _ (λ p. one_conflict_agrees ok other n agree n [] (omega arith))

    pub halving_conflict_asks_nothing_else : (cut : ℕ → ℕ) → Cuts cut → conflict_by_cut cut ok n ≡ conflict_by_cut cut other n
    halving_conflict_asks_nothing_else cut cuts =
        answered_agrees ok other n agree (none n) _ _
        (λ p. halve_conflict_agrees ok other n agree (tree_by cut n) 0 false [] (omega (arith, size-tree cut cuts n p)))
