-- One by one finds the preferred conflict and the preferred relaxation (document 004, the constructive definitions before Proposition 4).
use Rattle.std.proofs.Common.{◌≡◌, refl, sym, ap, ◌∙◌, Bool, true, false, true≢false, [], ◌∷◌, ◌++◌, append_assoc, append-nil, ℕ, zero}
use Rattle.std.proofs.Common.{suc, ◌+◌, ◌-◌, ◌<◌, arith, length, take, drop, get_or, drop-drop, get_or-drop, ltb, ltb-true, ltb-false}
use Rattle.std.proofs.Math.Nat.{suc-sub-suc}
use Rattle.preference.specs.Selection.{Selection, all, none, ◌⊆◌, same, more}
use Rattle.preference.specs.Question.{Question, Monotone, Relaxation, Conflict}
use Rattle.preference.specs.Preference.{LexBefore, AntilexBefore, PreferredRelaxation, PreferredConflict}
use Rattle.preference.specs.OneByOne.{one_conflict, one_relax}
use Rattle.preference.proofs.Lengths.{length_one_conflict}
use Rattle.preference.proofs.Selections.{in_selection, all_then_all, subset_refl, subset-length, none-subset}

-- a selection without the request at a place lies within: all the more important ones, not this one, and its own less important ones
pub within_without : (Y : Selection) (k : ℕ) → get_or Y k true ≡ false → Y ⊆ all k ++ (false ∷ drop (suc k) Y)
unfolding all
within_without [] k e = cc
within_without (true ∷ Y) zero e = cc
within_without (false ∷ Y) zero e = same (subset_refl Y)
within_without (true ∷ Y) (suc k) e = same (within_without Y k e)
within_without (false ∷ Y) (suc k) e = more (within_without Y k e)

-- within a selection that has the request at a place lie: its own more important ones, this one, and none of the less important ones
within_with : (Y : Selection) (k : ℕ) → get_or Y k false ≡ true → take k Y ++ (true ∷ none (length Y - suc k)) ⊆ Y
within_with [] k e = cc
within_with (false ∷ Y) zero e = cc
within_with (true ∷ Y) zero e = let m : suc (length Y) - 1 ≡ length Y = omega arith in rw m (same (none-subset Y))
within_with (b ∷ Y) (suc k) e = rw suc-sub-suc (same (within_with Y k e))

module _ (ok : Question) where
  -- what was decided stays, at the end
  decided_conflict : (n : ℕ) (S : Selection) → drop n (one_conflict ok n S).set ≡ S
  unfolding one_conflict
  decided_conflict zero S = refl
  decided_conflict (suc n) S =
      let keep : Bool = ok (all n ++ (false ∷ S)) in
      let R : Selection = (one_conflict ok n (keep ∷ S)).set in
      let e : suc n ≡ n + 1 = omega arith in
      rw (e, ← drop-drop 1 n R, decided_conflict n (keep ∷ S))

  pub one_conflict_asks_each : (n : ℕ) (S : Selection) → (one_conflict ok n S).asked ≡ n
  unfolding one_conflict
  one_conflict_asks_each zero S = refl
  one_conflict_asks_each (suc n) S = omega (arith, one_conflict_asks_each n (ok (all n ++ (false ∷ S)) ∷ S))

  -- each request that is kept: with all more important ones and what was decided of the rest, but without it, it stands
  kept_for_a_reason : (n : ℕ) (S : Selection) (k : ℕ) → k < n → get_or (one_conflict ok n S).set k false ≡ true
      → ok (all k ++ (false ∷ drop (suc k) (one_conflict ok n S).set)) ≡ true
  unfolding one_conflict
  kept_for_a_reason zero S k h e = absurd (omega arith)
  kept_for_a_reason (suc n) S k h e =
      last_or_before (ltb k n) refl (λ g. kept_for_a_reason n (keep ∷ S) k g e)
    where
      keep : Bool
      keep = ok (all n ++ (false ∷ S))

      R : Selection
      R = (one_conflict ok n (keep ∷ S)).set

      last_or_before : (t : Bool) → ltb k n ≡ t → (k < n → ok (all k ++ (false ∷ drop (suc k) R)) ≡ true)
          → ok (all k ++ (false ∷ drop (suc k) R)) ≡ true
      last_or_before true f before = before (ltb-true k n f)
      last_or_before false f before =
          let g : k ≡ n = omega (arith, ltb-false k n f) in
          let z : n + 0 ≡ k = omega arith in
          let one : suc n ≡ n + 1 = omega arith in
          let d : drop n R ≡ keep ∷ S = decided_conflict n (keep ∷ S) in
          let kept : keep ≡ true = sym (ap (λ L. get_or L 0 false) d) ∙ get_or-drop n R 0 false ∙ ap (λ m. get_or R m false) z ∙ e in
          rw (g, one, ← drop-drop 1 n R, d) kept

  fails_throughout : (n : ℕ) (S : Selection) → ok (all n ++ S) ≡ false → ok (one_conflict ok n S).set ≡ false
  unfolding one_conflict all
  fails_throughout zero S h = h
  fails_throughout (suc n) S h = fails_throughout n (ok (all n ++ (false ∷ S)) ∷ S) (go (ok (all n ++ (false ∷ S))) refl)
    where
      go : (keep : Bool) → ok (all n ++ (false ∷ S)) ≡ keep → ok (all n ++ (keep ∷ S)) ≡ false
      go true e = rw all_then_all h
      go false e = e

  pub one_relax_asks_each : (P : Selection) (n : ℕ) → (one_relax ok P n).asked ≡ n
  unfolding one_relax
  one_relax_asks_each P zero = refl
  one_relax_asks_each P (suc n) = omega (arith, one_relax_asks_each (P ++ (ok (P ++ (true ∷ none n)) ∷ [])) n)

  -- what one by one adds to what was decided: its length, and that each request left out fails with the more important ones that were kept
  relax_tail : (P : Selection) (n : ℕ)
      → (Q : Selection) × ((one_relax ok P n).set ≡ P ++ Q) × (length Q ≡ n)
      × ((k : ℕ) → get_or Q k true ≡ false → ok (P ++ (take k Q ++ (true ∷ none (n - suc k)))) ≡ false)
  unfolding one_relax
  relax_tail P zero = ([], sym (append-nil P), refl, λ k e. cc)
  relax_tail P (suc n) =
      let keep : Bool = ok (P ++ (true ∷ none n)) in
      let (Q, e, l, g) = relax_tail (P ++ (keep ∷ [])) n in
      (keep ∷ Q, e ∙ append_assoc P (keep ∷ []) Q, ap suc l, left_out_for_a_reason keep Q refl g)
    where
      left_out_for_a_reason : (keep : Bool) (Q : Selection) → ok (P ++ (true ∷ none n)) ≡ keep
          → ((k : ℕ) → get_or Q k true ≡ false → ok ((P ++ (keep ∷ [])) ++ (take k Q ++ (true ∷ none (n - suc k)))) ≡ false)
          → (k : ℕ) → get_or (keep ∷ Q) k true ≡ false → ok (P ++ (take k (keep ∷ Q) ++ (true ∷ none (suc n - suc k)))) ≡ false
      left_out_for_a_reason keep Q f g zero e = let m : suc n - 1 ≡ n = omega arith in rw m (f ∙ e)
      left_out_for_a_reason keep Q f g (suc k) e = rw suc-sub-suc (rw append_assoc at (g k e))

  stands_throughout : (P : Selection) (n : ℕ) → ok (P ++ none n) ≡ true → ok (one_relax ok P n).set ≡ true
  unfolding one_relax none
  stands_throughout P zero h = rw append-nil at h
  stands_throughout P (suc n) h = stands_throughout (P ++ (ok (P ++ (true ∷ none n)) ∷ [])) n (rw append_assoc (go (ok (P ++ (true ∷ none n))) refl))
    where
      go : (keep : Bool) → ok (P ++ (true ∷ none n)) ≡ keep → ok (P ++ (keep ∷ none n)) ≡ true
      go true e = e
      go false e = h

module _ (ok : Question) (n : ℕ) (monotone : Monotone ok n) where
  pub one_by_one_finds_the_preferred_conflict : ok (all n) ≡ false → PreferredConflict ok n (one_conflict ok n []).set
  one_by_one_finds_the_preferred_conflict h =
      record { conflict = record { over = over; fails = fails_throughout ok n [] (rw append-nil h) }; none_before = none_before }
    where
      R : Selection
      R = (one_conflict ok n []).set

      over : length R ≡ n
      over = omega (arith, length_one_conflict ok n [])

      none_before : (Y : Selection) → Conflict ok n Y → AntilexBefore Y R → ⊥
      none_before Y c l =
          let k : ℕ = l.place in
          let small : k < n = omega (arith, in_selection R k false l.chosen, over) in
          let r : Y ⊆ all k ++ (false ∷ drop (suc k) Y) = within_without Y k l.left_out in
          let stands : ok (all k ++ (false ∷ drop (suc k) Y)) ≡ true = rw l.below (kept_for_a_reason ok n [] k small l.chosen) in
          true≢false (sym (monotone Y _ (sym (subset-length r) ∙ c.over) r stands) ∙ c.fails)

  pub one_by_one_finds_the_preferred_relaxation : ok (none n) ≡ true → PreferredRelaxation ok n (one_relax ok [] n).set
  one_by_one_finds_the_preferred_relaxation h =
      let (Q, e, l, left_out) = relax_tail ok [] n in
      rw e (record { relaxation = record { over = l; stands = rw e at (stands_throughout ok [] n h) }; none_before = none_before Q left_out })
    where
      none_before : (Q : Selection) → ((k : ℕ) → get_or Q k true ≡ false → ok (take k Q ++ (true ∷ none (n - suc k))) ≡ false)
          → (Y : Selection) → Relaxation ok n Y → LexBefore Y Q → ⊥
      none_before Q left_out Y c l =
          let k : ℕ = l.place in
          let r : take k Y ++ (true ∷ none (n - suc k)) ⊆ Y = rw c.over at (within_with Y k l.chosen) in
          let fails : ok (take k Y ++ (true ∷ none (n - suc k))) ≡ false = rw l.above (left_out k l.left_out) in
          true≢false (sym (monotone _ Y c.over r c.stands) ∙ fails)
