-- The conflict's part worked in place: one law for each way out of the function, and what its calls need.
use Rattle.std.proofs.Common.{ℕ, ◌+◌, ◌-◌, ◌*◌, ◌/◌, ◌≤◌, ◌<◌, ◌≡◌, refl, sym, ap, ◌∙◌, Bool, true, false, ◌&&◌, not, true≢false, ◌++◌, append_assoc}
use Rattle.std.proofs.Common.{arith, ltb, length, set, length-append}
use mir.Val.{bool_byte}
use Rattle.std.proofs.lemmas.List.{set_at}
use Rattle.preference.specs.Selection.{Selection, all, none}
use Rattle.preference.specs.Question.{Question}
use Rattle.preference.specs.Part.{Part}
use Rattle.preference.specs.Cut.{middle, half}
use Rattle.preference.specs.Halving.{halve_conflict}
use Rattle.preference.proofs.Selections.{length-all, length_none, all-add, none-add}
use Rattle.preference.proofs.Trees.{half_cuts}
use Rattle.preference.proofs.Few.{Few, conflict_asks_few}
use Rattle.preference.proofs.Turns.{conflict_gives_nothing, conflict_gives_the_request, conflict_is_cut}
use Rattle.explain.specs.declared.span.Span.{Span}
use Rattle.explain.specs.Flags.{filled}
use Rattle.explain.specs.Parts.{Halved, InGround, ConflictWorked}
use Rattle.explain.proofs.Filling.{fill_true, fill_false}
use Rattle.explain.proofs.Halves.{one_question}

-- a question that was asked and answered no; one that was answered yes, or not asked
asked_no : (asking answer told : Bool) → told ≡ (asking && not answer) → told ≡ true → (asking ≡ true) × (answer ≡ false)
asked_no true true told e h = absurd (true≢false (sym h ∙ e))
asked_no true false told e h = (refl, refl)
asked_no false answer told e h = absurd (true≢false (sym h ∙ e))

asked_yes : (asking answer told : Bool) → told ≡ (asking && not answer) → told ≡ false → asking ≡ true → answer ≡ true
asked_yes true true told e h a = refl
asked_yes true false told e h a = absurd (true≢false (sym e ∙ h))
asked_yes false answer told e h a = absurd (true≢false (sym a))

module _ (ok : Question) (from count : ℕ) (asking : Bool) (X : Selection) (told : Bool) (e : told ≡ (asking && not (ok X))) where
  -- the ground was asked and cannot stand
  pub gives_nothing : 0 < count → told ≡ true → ConflictWorked ok from count asking X X 0 1
  gives_nothing some h S g =
      let a = asked_no asking (ok X) told e h in
      let p = conflict_gives_nothing ok half half_cuts count from S some (rw g at a.1) in
      rw a.0 (rw p (record { set = g; found_is = refl; asked_is = refl }))

  module _ (h : told ≡ false) (asked : ℕ) (counted : asked ≡ bool_byte asking) where
    ground : (S : Selection) → X ≡ all from ++ (none count ++ S) → asking ≡ true → ok (all from ++ (none count ++ S)) ≡ true
    ground S g a = rw g at (asked_yes asking (ok X) told e h a)

    -- a part of one gives that request
    pub gives_the_request : count ≡ 1 → ConflictWorked ok from count asking X (set X from true) 1 asked
    unfolding none
    gives_the_request one S g =
        let p = conflict_gives_the_request ok half half_cuts count from S one asking (ground S g) in
        rw p
        (record {
          set = rw (g, one) (set_at (all from) false S true from (length-all from));
          found_is = refl;
          asked_is = (one_question asking counted).0;
        })

-- the second half's part: the first half is added to the ground
second_ground :
    (from count h : ℕ) (X F S : Selection) →
    h ≤ count →
    F ≡ filled from h true X →
    X ≡ all from ++ (none count ++ S) →
    F ≡ all (from + h) ++ (none (count - h) ++ S)
second_ground from count h X F S le e g =
    let split : none count ≡ none h ++ none (count - h) = rw (← none-add h (count - h)) (ap none (omega_count h count le)) in
    let x : X ≡ all from ++ (none h ++ (none (count - h) ++ S)) = g ∙ rw (split, append_assoc) in
    e ∙ fill_true (all from) (none (count - h) ++ S) X from h (length-all from) x ∙ rw (all-add, append_assoc)
  where
    omega_count : (h count : ℕ) → h ≤ count → count ≡ h + (count - h)
    omega_count h count le = omega arith

-- the first half's part: what the second half gave is added instead
first_ground :
    (from h : ℕ) (X F D : Selection) → F ≡ filled from h false X → X ≡ all (from + h) ++ D → F ≡ all from ++ (none h ++ D)
first_ground from h X F D e g =
    let x : X ≡ all from ++ (all h ++ D) = g ∙ rw (all-add, append_assoc) in
    e ∙ fill_false (all from) D X from h (length-all from) x

-- the sums of a part stay small
pub few_in_conflict :
    (ok : Question) (from count : ℕ) (asking : Bool) (X F : Selection) (f a : ℕ) →
    InGround from count X →
    ConflictWorked ok from count asking X F f a →
    (f ≤ count) × (a ≤ 2 * count)
few_in_conflict ok from count asking X F f a ready worked =
    let l = worked ready.S ready.ground in
    go asking (conflict_asks_few ok half half_cuts count ready.some from asking ready.S) l.found_is l.asked_is
  where
    go : (b : Bool) {p : Part} → Few b count p → f ≡ p.found → a ≡ p.asked → (f ≤ count) × (a ≤ 2 * count)
    go true w x y = omega (arith, w.found, w.asked)
    go false w x y = omega (arith, w.found, w.asked)

-- the part lies within the flags
pub part_within : {from count : ℕ} {X : Selection} → InGround from count X → from + count ≤ length X
part_within ready =
    omega (arith, simp (length-append, length-all, length_none) at (ap length ready.ground))

module _
    {from count : ℕ} {first second : Span} {X F1 : Selection} (halved : Halved from count first second)
    (ready : InGround from count X) (more : count ≡ 1 → ⊥) (added : F1 ≡ filled first.from first.count true X) where
  two : 2 ≤ count
  two = omega (arith, ready.some)

  with_it : F1 ≡ filled from (count / 2) true X
  with_it = rw halved.first_is at added

  -- the second half's part
  pub second_ready : InGround second.from second.count F1
  second_ready =
      rw halved.second_is
      (record {
        some = omega (arith, two);
        S = ready.S;
        ground = second_ground from count (count / 2) X F1 ready.S (omega arith) with_it ready.ground;
      })

  module _
      (ok : Question) {F2 F3 : Selection} {f2 a2 : ℕ}
      (worked : ConflictWorked ok second.from second.count true F1 F2 f2 a2)
      (taken : F3 ≡ filled first.from first.count false F2) where
    worked_second : ConflictWorked ok (from + count / 2) (count - count / 2) true F1 F2 f2 a2
    worked_second = rw halved.second_is at worked

    without_it : F3 ≡ filled from (count / 2) false F2
    without_it = rw halved.first_is at taken

    -- the first half's part
    pub first_ready : InGround first.from first.count F3
    first_ready =
        let l = worked_second ready.S (second_ground from count (count / 2) X F1 ready.S (omega arith) with_it ready.ground) in
        rw halved.first_is
        (record {
          some = omega (arith, two);
          S = (halve_conflict ok (middle (count - count / 2)) (from + count / 2) true ready.S).set;
          ground = first_ground from (count / 2) F2 F3 _ without_it l.set;
        })

    module _ (asking1 : Bool) {F4 : Selection} {f1 a1 : ℕ} (worked1 : ConflictWorked ok first.from first.count asking1 F3 F4 f1 a1) where
      -- the sums of the two stay small
      pub few_in_both : (f2 + f1 ≤ length X) × (a2 + a1 ≤ 2 * length X)
      few_in_both =
          omega (
            arith,
            few_in_conflict ok second.from second.count true F1 F2 f2 a2 second_ready worked,
            few_in_conflict ok first.from first.count asking1 F3 F4 f1 a1 first_ready worked1,
            ap (λ (s : Span). s.count) halved.first_is,
            ap (λ (s : Span). s.count) halved.second_is,
            part_within ready,
          )

      -- the part is cut: both halves were worked
      pub is_cut :
          asking1 ≡ ltb 0 f2 →
          (asking told : Bool) →
          told ≡ (asking && not (ok X)) →
          told ≡ false →
          (asked : ℕ) →
          asked ≡ bool_byte asking →
          (sum : ℕ) →
          sum ≡ asked + (a2 + a1) →
          ConflictWorked ok from count asking X F4 (f2 + f1) sum
      is_cut same asking told e h asked counted sum both S g =
          let d2 : Part = halve_conflict ok (middle (count - count / 2)) (from + count / 2) true S in
          let l2 = worked_second S (second_ground from count (count / 2) X F1 S (omega arith) with_it g) in
          let l1 = (rw (halved.first_is, same) at worked1) d2.set (first_ground from (count / 2) F2 F3 d2.set without_it l2.set) in
          let d1 : Part = halve_conflict ok (middle (count / 2)) from (ltb 0 f2) d2.set in
          let p =
          conflict_is_cut ok half half_cuts count from S two asking (ground ok from count asking X told e h asked counted S g) d2 d1 refl
          (rw l2.found_is) in
          rw (p, both)
          (record {
            set = l1.set;
            found_is = omega (arith, l2.found_is, l1.found_is);
            asked_is = omega (arith, (one_question asking counted).0, l2.asked_is, l1.asked_is);
          })
