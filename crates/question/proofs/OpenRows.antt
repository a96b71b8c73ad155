-- The places sorted by the states of their rows: one turn of the loop, and each way out of it.
use Rattle.std.proofs.Common.{◌≡◌, ℕ, ◌+◌, ◌<◌, ◌≤◌, Bool, true, false, eqb, List, length, get_or, refl, sym, ◌∙◌, arith, eqb-true}
use Rattle.std.proofs.Common.{set, swap, IsPermutation, Err}
use Rattle.std.proofs.lemmas.Bool.{eqb-false}
use Rattle.std.specs.List.{AllWithin}
use Rattle.std.proofs.lemmas.List.{get_or_default}
use Rattle.std.proofs.lemmas.List.Edits.{Swapped, swap_is, swapped_from_swap}
use Rattle.std.proofs.lemmas.List.Sorted.{IsPermutation-trans, All-permutation}
use Rattle.table.specs.Rows.{row_at}
use Rattle.meaning.specs.HalfMade.{Values}
use Rattle.meaning.specs.declared.state.State.{State}
use Rattle.meaning.specs.declared.state.State.TheVariants.{Met, Open, Fails}
use Rattle.meaning.specs.States.{row_state}
use Rattle.meaning.proofs.Pruning.{no_completion_meets, every_completion_meets}
use Rattle.question.specs.declared.narrowing.FailedRow.{FailedRow}
use Rattle.question.specs.Completing.{MeetsAt}
use Rattle.question.specs.Narrowing.{SurelyMet, MayBeMet, Narrowed}
use Rattle.question.proofs.Rearranging.{exchange_rearranges}

-- how far the loop has come: the first `kept` rows may be met, the others before `next` are met by every completion
pub record Sorted (t : List ℕ) (values : Values) (before places : List ℕ) (kept next : ℕ) : Type 0 where
  pub rearranged : IsPermutation before places
  pub may_hold : AllWithin (MayBeMet t values) places 0 kept
  pub hold : AllWithin (SurelyMet t values) places kept next

-- a step is made where the state is open, and none where it is not; a row that does not fail is met where none is made
module _ {state : State} (small : state ≡ Fails → ⊥) {step : ℕ} (one : state ≡ Open → step ≡ 1) (none : (state ≡ Open → ⊥) → step ≡ 0) where
  pub steps_one : step ≤ 1
  steps_one = by state refl
    where
      by : (s : State) → state ≡ s → step ≤ 1
      by Met e = let n = none (λ f. let z : ⊥ = cc in z) in omega arith
      by Open e = let n = one e in omega arith
      by Fails e = absurd (small e)

  is_met : step ≡ 0 → state ≡ Met
  is_met stays = by state refl
    where
      by : (s : State) → state ≡ s → state ≡ Met
      by Met e = e
      by Open e = absurd (let n = one e in omega arith)
      by Fails e = absurd (small e)

module _ {t : List ℕ} {values : Values} {before : List ℕ} where
  module _ {places : List ℕ} {kept next : ℕ} (sorted : Sorted t values before places kept next) where
    module _ (order : kept ≤ next) (more : next < length places)
        {state : State} (tested : state ≡ row_state values (row_at t (get_or places next 0))) where
      -- the row at hand cannot be met
      pub row_lost : {after : List ℕ} {failed : FailedRow} → state ≡ Fails → IsPermutation places after → Narrowed t values before after (Err failed)
      row_lost {after = after} never moved =
          record {
            reduced = record {
              rearranged = IsPermutation-trans before places after sorted.rearranged moved;
              tells = λ found.
                  no_completion_meets values found.setting found.agrees (row_at t (get_or places next 0)) (sym never ∙ tested)
                  (All-permutation (MeetsAt t found.setting) before places sorted.rearranged found.passes.each next 0 more);
            };
            may_hold = tt;
          }

      -- it can
      module _ (small : state ≡ Fails → ⊥) {step : ℕ} (one : state ≡ Open → step ≡ 1) (none : (state ≡ Open → ⊥) → step ≡ 0) where
        abbrev after : List ℕ
        after = set (set places next (get_or places kept 0)) kept (get_or places next 0)

        exchanged : after ≡ swap places next kept
        exchanged = swap_is places next kept 0 more (omega arith)

        swapped : (d : ℕ) → Swapped (λ i. get_or places i d) (λ i. get_or after i d) next kept
        swapped d = swapped_from_swap places after next kept d more (omega arith) exchanged

        state_at : (d : ℕ) → state ≡ row_state values (row_at t (get_or places next d))
        state_at d = rw (get_or_default places next d 0 more) tested

        may : (k d : ℕ) → k < kept + step → (here : Bool) → eqb k kept ≡ here → MayBeMet t values (get_or after k d)
        may k d h true p = let e : k ≡ kept = eqb-true k kept p in rw (e, (swapped d).1) (λ fails. small (state_at d ∙ fails))
        may k d h false p =
            let n : k ≡ kept → ⊥ = eqb-false k kept p in
            rw ((swapped d).2 k (λ e. omega (arith, steps_one small one none)) n) (sorted.may_hold k d (omega arith) (omega (arith, steps_one small one none)))

        surely : (k d : ℕ) → kept + step ≤ k → k < next + 1 → (p q : Bool) → eqb k kept ≡ p → eqb k next ≡ q → SurelyMet t values (get_or after k d)
        surely k d a b true q p f =
            let e : k ≡ kept = eqb-true k kept p in
            let s : state ≡ Met = is_met small one none (omega arith) in
            λ setting agrees. rw (e, (swapped d).1) (every_completion_meets values setting agrees _ (sym s ∙ state_at d))
        surely k d a b false true p f =
            let n : k ≡ kept → ⊥ = eqb-false k kept p in
            let e : k ≡ next = eqb-true k next f in
            λ setting agrees. rw (e, (swapped d).0) (sorted.hold kept d (omega arith) (omega arith) setting agrees)
        surely k d a b false false p f =
            let n : k ≡ kept → ⊥ = eqb-false k kept p in
            let m : k ≡ next → ⊥ = eqb-false k next f in
            λ setting agrees. rw ((swapped d).2 k m n) (sorted.hold k d (omega arith) (omega arith) setting agrees)

        pub sorted_turn : Sorted t values before (set (set places next (get_or places kept 0)) kept (get_or places next 0)) (kept + step) (next + 1)
        sorted_turn =
            record {
              rearranged =
                  IsPermutation-trans before places after sorted.rearranged (exchange_rearranges places next kept more (omega arith));
              may_hold = λ k d a h. may k d h (eqb k kept) refl;
              hold = λ k d a b. surely k d a b (eqb k kept) (eqb k next) refl refl;
            }
