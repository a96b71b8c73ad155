-- Document 004, Proposition 4: the most important request left out of the preferred relaxation is the least important one of the preferred conflict.
use Rattle.std.proofs.Common.{◌≡◌, refl, sym, ap, ap₂, subst, ◌∙◌, Bool, true, false, true≢false, [], ◌∷◌, ◌++◌, ℕ}
use Rattle.std.proofs.Common.{zero, suc, ◌+◌, ◌-◌, ◌<◌, arith, length, drop, get_or, length-append, length-drop, take_at}
use Rattle.std.proofs.Math.Seq.{split_at, get_or_at}
use Rattle.std.proofs.lemmas.List.{get_or_default}
use Rattle.preference.specs.Selection.{Selection, all, none, ◌⊆◌, same}
use Rattle.preference.specs.Question.{Question, Monotone}
use Rattle.preference.specs.Preference.{LexBefore, AntilexBefore, PreferredRelaxation, PreferredConflict, MostImportantLeftOut, LeastImportantChosen}
use Rattle.preference.specs.Cut.{Cuts}
use Rattle.preference.specs.Answer.{conflict_by_cut, relaxation_by_cut}
use Rattle.preference.proofs.Selections.{in_selection, all_then_all, length-all, length_none, subset_refl, subset-append, subset-length, none-subset}
use Rattle.preference.proofs.Orders.{antilex_later, subset_first}
use Rattle.preference.proofs.Preferred.{within_without}
use Rattle.preference.proofs.Start.{status_1}
use Rattle.preference.proofs.Conflicts.{no_conflict_where_all_stand, halving_conflict_is_preferred}
use Rattle.preference.proofs.Relaxations.{halving_relaxation_is_preferred}

first_left_out : (X : Selection) → (X ≡ all (length X) → ⊥) → (k : ℕ) × MostImportantLeftOut X k
unfolding all
first_left_out [] f = absurd (f refl)
first_left_out (false ∷ X) f = (zero, record { above = refl; left_out = refl })
first_left_out (true ∷ X) f =
    let (k, m) = first_left_out X (λ e. f (ap {B = Selection} (λ Z. true ∷ Z) e)) in
    (suc k, record { above = ap {B = Selection} (λ Z. true ∷ Z) m.above; left_out = m.left_out })

-- a selection that the first k requests do not come before has none after them
none_after : (k m : ℕ) (X : Selection) → length X ≡ k + m → (AntilexBefore (all k ++ none m) X → ⊥) → drop k X ≡ none m
unfolding all
none_after zero m X e f = let l : length X ≡ m = omega arith in sym (subset_first (rw l at (none-subset X)) f)
none_after (suc k) m [] e f = absurd (omega arith)
none_after (suc k) m (b ∷ X) e f = none_after k m X (omega arith) (λ l. f (antilex_later true b l))

module _ (ok : Question) (n : ℕ) (monotone : Monotone ok n) {C R : Selection} (c : PreferredConflict ok n C) (r : PreferredRelaxation ok n R) where
  module _ (k : ℕ) (m : MostImportantLeftOut R k) where
    abbrev after : ℕ
    after = n - suc k

    in_order : k < n
    in_order = let l : length R ≡ n = r.relaxation.over in omega (arith, in_selection R k true m.left_out)

    -- the requests up to this one cannot stand: they would come before the relaxation
    up_to_here_fails : ok (all k ++ (true ∷ none after)) ≡ false
    up_to_here_fails = go (ok X) refl
      where
        X : Selection
        X = all k ++ (true ∷ none after)

        before : LexBefore X R
        before =
            record {
              place = k;
              above = take_at (all k) (true ∷ none after) k (length-all k) ∙ sym m.above;
              chosen = get_or_at (all k) true (none after) false k (length-all k);
              left_out = m.left_out;
            }

        go : (b : Bool) → ok X ≡ b → ok X ≡ false
        go false e = e
        go true e =
            let h : k < n = in_order in
            absurd (r.none_before X (record { over = simp (length-append, length-all, length_none) (omega arith); stands = e }) before)

    -- the requests above it can: they are all in the relaxation
    above_stands : ok (all k ++ (false ∷ none after)) ≡ true
    above_stands =
        let l : length R ≡ n = r.relaxation.over in
        let h : k < length R = in_selection R k true m.left_out in
        let shape : R ≡ all k ++ (false ∷ drop (suc k) R) =
        split_at R k true h ∙ ap₂ {C = Selection} (λ A b. A ++ (b ∷ drop (suc k) R)) m.above m.left_out in
        let e : length (drop (suc k) R) ≡ after = length-drop (suc k) R ∙ ap (λ i. i - suc k) l in
        monotone (all k ++ (false ∷ none after)) R l
        (subst (λ X. all k ++ (false ∷ none after) ⊆ X) (sym shape)
        (subset-append (subset_refl (all k)) (same (rw e at (none-subset (drop (suc k) R)))))) r.relaxation.stands

    none_below : drop (suc k) C ≡ none after
    none_below =
        let h : k < n = in_order in
        let e : length C ≡ n = c.conflict.over in
        none_after (suc k) after C (omega arith)
        (c.none_before (all (suc k) ++ none after)
        (record { over = simp (length-append, length-all, length_none) (omega arith); fails = rw all_then_all at up_to_here_fails }))

    chosen : get_or C k false ≡ true
    chosen = go (get_or C k false) refl
      where
        go : (b : Bool) → get_or C k false ≡ b → get_or C k false ≡ true
        go true e = e
        go false e =
            let l : length C ≡ n = c.conflict.over in
            let h : k < n = in_order in
            let left_out : get_or C k true ≡ false = get_or_default C k true false (omega arith) ∙ e in
            let within : C ⊆ all k ++ (false ∷ none after) = rw none_below at (within_without C k left_out) in
            absurd (true≢false (sym (monotone C _ (sym (subset-length within) ∙ l) within above_stands) ∙ c.conflict.fails))

  pub proposition_4 : (k : ℕ) × MostImportantLeftOut R k × LeastImportantChosen C k
  proposition_4 =
      let l : length R ≡ n = r.relaxation.over in
      let e : length C ≡ n = c.conflict.over in
      let (k, m) = first_left_out R (λ e. no_conflict_where_all_stand ok n monotone (rw (← l, ← e) r.relaxation.stands) C c.conflict) in
      (k, m, record { chosen = chosen k m; below = rw e (none_below k m) })

-- the same of the methods' answers, where the status is 1
pub the_two_answers_are_linked : (ok : Question) (n : ℕ) → Monotone ok n → (cut : ℕ → ℕ) → Cuts cut → (conflict_by_cut cut ok n).status ≡ 1
    → (k : ℕ) × MostImportantLeftOut (relaxation_by_cut cut ok n).set k × LeastImportantChosen (conflict_by_cut cut ok n).set k
the_two_answers_are_linked ok n monotone cut cuts h =
    let (fails, stands) = (status_1 ok n _ _).0 h in
    proposition_4 ok n monotone (halving_conflict_is_preferred ok n monotone cut cuts fails)
    (halving_relaxation_is_preferred ok n monotone cut cuts stands)
