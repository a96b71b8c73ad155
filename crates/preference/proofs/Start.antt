-- The shared start of both methods: one law for each of its ways out, and what a status says.
use Rattle.std.proofs.Common.{◌≡◌, refl, sym, ap, ◌∙◌, Bool, true, false, true≢false, ◌↔◌, ℕ, zero, suc, ◌+◌, ◌<◌, arith, eqb, eq-eqb, ne_eqb, eqb-true}
use borrow.Author.Tests.{eqb-false}
use Rattle.preference.specs.Selection.{Selection, all, none}
use Rattle.preference.specs.Question.{Question, Monotone}
use Rattle.preference.specs.Part.{Part}
use Rattle.preference.specs.Answer.{Answer, SameAnswer, answered}
use Rattle.preference.proofs.Selections.{length-all, none_subset_all}

-- of no requests, all are none
nothing_to_choose : (n : ℕ) → n ≡ 0 → all n ≡ none n
unfolding all none
nothing_to_choose zero e = refl
nothing_to_choose (suc n) e = absurd (omega arith)

module _ (ok : Question) (n : ℕ) (whole : Selection) (worked : Part) where
  -- all can stand: one question
  pub start_all : ok (all n) ≡ true → answered ok n whole worked ≡ record { status = 0; set = whole; asked = 1 }
  unfolding answered
  start_all h = rw h

  -- no requests, and the host cannot stand: one question
  pub start_empty : ok (all n) ≡ false → n ≡ 0 → answered ok n whole worked ≡ record { status = 2; set = none n; asked = 1 }
  unfolding answered
  start_empty h z = rw (h, eq-eqb n 0 z)

  -- the host cannot stand: two questions
  pub start_host : ok (all n) ≡ false → 0 < n → ok (none n) ≡ false → answered ok n whole worked ≡ record { status = 2; set = none n; asked = 2 }
  unfolding answered
  start_host h p g = let z : (n ≡ 0 → ⊥) = λ e. omega arith in rw (h, ne_eqb n 0 z, g)

  -- the host can stand and all cannot: the method works
  pub start_worked : ok (all n) ≡ false → 0 < n → ok (none n) ≡ true
      → answered ok n whole worked ≡ record { status = 1; set = worked.set; asked = 2 + worked.asked }
  unfolding answered
  start_worked h p g = let z : (n ≡ 0 → ⊥) = λ e. omega arith in rw (h, ne_eqb n 0 z, g)

  -- what holds of each way out holds of the answer
  pub by_start : (A : Answer → Type 0)
      → (ok (all n) ≡ true → A (record { status = 0; set = whole; asked = 1 }))
      → (ok (all n) ≡ false → n ≡ 0 → ok (none n) ≡ false → A (record { status = 2; set = none n; asked = 1 }))
      → (ok (all n) ≡ false → 0 < n → ok (none n) ≡ false → A (record { status = 2; set = none n; asked = 2 }))
      → (ok (all n) ≡ false → 0 < n → ok (none n) ≡ true → A (record { status = 1; set = worked.set; asked = 2 + worked.asked }))
      → A (answered ok n whole worked)
  by_start A stands empty host works = go (ok (all n)) (eqb n 0) (ok (none n)) refl refl refl
    where
      go : (a z h : Bool) → ok (all n) ≡ a → eqb n 0 ≡ z → ok (none n) ≡ h → A (answered ok n whole worked)
      go true z h e f g = rw (start_all e) (stands e)
      go false true h e f g =
          let m : n ≡ 0 = eqb-true n 0 f in
          rw (start_empty e m) (empty e m (rw (nothing_to_choose n m) at e))
      go false false false e f g =
          let p : 0 < n = omega (arith, eqb-false n 0 f) in
          rw (start_host e p g) (host e p g)
      go false false true e f g =
          let p : 0 < n = omega (arith, eqb-false n 0 f) in
          rw (start_worked e p g) (works e p g)

  -- status 0 exactly when all can stand
  pub status_0 : (answered ok n whole worked).status ≡ 0 ↔ ok (all n) ≡ true
  status_0 = (
    by_start (λ a. a.status ≡ 0 → ok (all n) ≡ true) (λ h e. h) (λ h z g e. absurd (omega arith)) (λ h p g e. absurd (omega arith))
        (λ h p g e. absurd (omega arith)),
    λ h. ap (λ a. a.status) (start_all h),
  )

  -- status 1 exactly when all cannot stand and the host can
  pub status_1 : (answered ok n whole worked).status ≡ 1 ↔ (ok (all n) ≡ false) × (ok (none n) ≡ true)
  status_1 = (
    by_start (λ a. a.status ≡ 1 → (ok (all n) ≡ false) × (ok (none n) ≡ true)) (λ h e. absurd (omega arith)) (λ h z g e. absurd (omega arith))
        (λ h p g e. absurd (omega arith)) (λ h p g e. (h, g)),
    λ w. by_start (λ a. a.status ≡ 1) (λ h. cc) (λ h z g. cc) (λ h p g. cc) (λ h p g. refl),
  )

  -- status 2 exactly when the host alone cannot stand
  pub status_2 : Monotone ok n → (answered ok n whole worked).status ≡ 2 ↔ ok (none n) ≡ false
  status_2 monotone = (
    by_start (λ a. a.status ≡ 2 → ok (none n) ≡ false) (λ h e. absurd (omega arith)) (λ h z g e. g) (λ h p g e. g) (λ h p g e. absurd (omega arith)),
    λ f. by_start (λ a. a.status ≡ 2)
        (λ h. absurd (true≢false (sym (monotone (none n) (all n) (length-all n) (none_subset_all n) h) ∙ f))) (λ h z g. refl) (λ h p g. refl)
        (λ h p g. cc),
  )

-- a method that finds the same set where it works gives the same answer
pub same_answer : (ok : Question) (n : ℕ) (whole : Selection) (p q : Part)
    → (ok (all n) ≡ false → 0 < n → ok (none n) ≡ true → p.set ≡ q.set) → SameAnswer (answered ok n whole p) (answered ok n whole q)
same_answer ok n whole p q e =
    by_start ok n whole p (λ a. SameAnswer a (answered ok n whole q)) (λ h. rw (start_all ok n whole q h) (record { status = refl; set = refl }))
    (λ h z g. rw (start_empty ok n whole q h z) (record { status = refl; set = refl }))
    (λ h p g. rw (start_host ok n whole q h p g) (record { status = refl; set = refl }))
    (λ h p g. rw (start_worked ok n whole q h p g) (record { status = refl; set = e h p g }))
