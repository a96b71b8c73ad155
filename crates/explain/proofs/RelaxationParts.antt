-- The relaxation's part worked in place: one law for each way out of its functions, and what their calls need.
use Rattle.std.proofs.Common.{ℕ, ◌+◌, ◌-◌, ◌*◌, ◌/◌, ◌≤◌, ◌<◌, ◌≡◌, refl, sym, ap, ◌∙◌, Bool, true, false, ◌&&◌, true≢false, [], ◌∷◌, ◌++◌}
use Rattle.std.proofs.Common.{append_assoc, arith, ltb, length, length-append}
use mir.Val.{bool_byte}
use Rattle.preference.specs.Selection.{Selection, all, none}
use Rattle.preference.specs.Question.{Question}
use Rattle.preference.specs.Part.{Part}
use Rattle.preference.specs.Cut.{middle, half}
use Rattle.preference.specs.Halving.{halve_relax}
use Rattle.preference.proofs.Selections.{length_none, none-add}
use Rattle.preference.proofs.Trees.{half_cuts, size-tree}
use Rattle.preference.proofs.Lengths.{length_halve_relax}
use Rattle.preference.proofs.Few.{Few, relax_asks_few}
use Rattle.preference.proofs.Turns.{relax_keeps_the_part, relax_drops_the_request, relax_is_cut}
use Rattle.explain.specs.declared.span.Span.{Span}
use Rattle.explain.specs.Flags.{filled}
use Rattle.explain.specs.Parts.{Halved, OutOfGround, RelaxationWorked, WholeTried}
use Rattle.explain.proofs.Filling.{fill_true, fill_false}
use Rattle.explain.proofs.Halves.{one_question}

module _ (ok : Question) (from count : ℕ) (asking : Bool) (X : Selection) where
  -- the part was not to be asked
  pub not_tried : asking ≡ false → WholeTried ok from count asking X X false
  not_tried a P after l g = record { told_is = rw a; kept = λ h. absurd (true≢false (sym h)); left_out = λ h. g }

  module _ (asked : asking ≡ true) (F : Selection) (answer : Bool) (e : F ≡ filled from count true X) (q : answer ≡ ok F) where
    whole : (P : Selection) (after : ℕ) → length P ≡ from → X ≡ P ++ (none count ++ none after) → F ≡ P ++ (all count ++ none after)
    whole P after l g = e ∙ fill_true P (none after) X from count l g

    -- it was, and stands whole
    pub tried_and_kept : answer ≡ true → WholeTried ok from count asking X F true
    tried_and_kept h P after l g =
        let w = whole P after l g in
        record { told_is = rw (asked, ← w, ← q, h); kept = λ k. w; left_out = λ k. absurd (true≢false k) }

    -- it was, and does not
    pub tried_and_left_out : (G : Selection) → G ≡ filled from count false F → answer ≡ false → WholeTried ok from count asking X G false
    tried_and_left_out G d h P after l g =
        let w = whole P after l g in
        record {
          told_is = rw (asked, ← w, ← q, h);
          kept = λ k. absurd (true≢false (sym k));
          left_out = λ k. d ∙ fill_false P (none after) F from count l w;
        }

-- the part lies within the flags
pub out_within : {from count : ℕ} {X : Selection} → OutOfGround from count X → from + count ≤ length X
out_within ready =
    omega (arith, ready.long, simp (length-append, length_none) at (ap length ready.ground))

asked_yes : (asking answer : Bool) → true ≡ (asking && answer) → (asking ≡ true) × (answer ≡ true)
asked_yes true answer e = (refl, sym e)
asked_yes false answer e = absurd (true≢false e)

asked_no : (asking answer : Bool) → false ≡ (asking && answer) → asking ≡ true → answer ≡ false
asked_no true answer e a = sym e
asked_no false answer e a = absurd (true≢false (sym a))

module _ (ok : Question) (from count : ℕ) (asking : Bool) (X F : Selection) (told : Bool) (tried : WholeTried ok from count asking X F told) where
  -- the part was asked and is kept whole
  pub keeps_the_part : 0 < count → told ≡ true → RelaxationWorked ok from count asking X F 0 1
  keeps_the_part some h P after l g =
      let t = tried P after l g in
      let a = asked_yes asking _ (sym h ∙ t.told_is) in
      let p = relax_keeps_the_part ok half half_cuts P count after some a.1 in
      rw a.0 (rw p (record { set = t.kept h ∙ sym (append_assoc P (all count) (none after)); found_is = refl; asked_is = refl }))

  module _ (h : told ≡ false) (asked : ℕ) (counted : asked ≡ bool_byte asking) where
    fails : (P : Selection) (after : ℕ) → length P ≡ from → X ≡ P ++ (none count ++ none after) → asking ≡ true → ok (P ++ (all count ++ none after)) ≡ false
    fails P after l g a = asked_no asking _ (sym h ∙ (tried P after l g).told_is) a

    -- a part of one is dropped
    pub drops_the_request : count ≡ 1 → RelaxationWorked ok from count asking X F 1 asked
    unfolding none
    drops_the_request one P after l g =
        let p = relax_drops_the_request ok half half_cuts P count after one asking (fails P after l g) in
        rw p
        (record {
          set = rw one at ((tried P after l g).left_out h) ∙ sym (append_assoc P (false ∷ []) (none after));
          found_is = refl;
          asked_is = (one_question asking counted).0;
        })

-- the first half's part: the rest comes after it
first_ground :
    (count h after : ℕ) (X P : Selection) → h ≤ count → X ≡ P ++ (none count ++ none after) → X ≡ P ++ (none h ++ none ((count - h) + after))
first_ground count h after X P le g =
    g ∙ ap (λ (Y : Selection). P ++ Y) (sym (none-add count after) ∙ ap none (again count h after le) ∙ none-add h ((count - h) + after))
  where
    again : (count h after : ℕ) → h ≤ count → count + after ≡ h + ((count - h) + after)
    again count h after le = omega arith

-- the second half's part: what was kept of the first one comes before it
second_ground : (rest after : ℕ) (X K : Selection) → X ≡ K ++ none (rest + after) → X ≡ K ++ (none rest ++ none after)
second_ground rest after X K g = g ∙ ap (λ (Y : Selection). K ++ Y) (none-add rest after)

long_kept : (ok : Question) (from h after : ℕ) (P : Selection) → 0 < h → length P ≡ from → length (halve_relax ok (middle h) P after true).set ≡ from + h
long_kept ok from h after P some l =
    length_halve_relax ok (middle h) P after true ∙ rw (l, size-tree half half_cuts h some)

-- the sums of a part stay small
pub few_in_relaxation :
    (ok : Question) (from count : ℕ) (asking : Bool) (X F : Selection) (f a : ℕ) →
    OutOfGround from count X →
    RelaxationWorked ok from count asking X F f a →
    (f ≤ count) × (a ≤ 2 * count)
few_in_relaxation ok from count asking X F f a ready worked =
    let l = worked ready.P ready.after ready.long ready.ground in
    go asking (relax_asks_few ok half half_cuts count ready.some ready.P ready.after asking) l.found_is l.asked_is
  where
    go : (b : Bool) {p : Part} → Few b count p → f ≡ p.found → a ≡ p.asked → (f ≤ count) × (a ≤ 2 * count)
    go true w x y = omega (arith, w.found, w.asked)
    go false w x y = omega (arith, w.found, w.asked)

module _
    {from count : ℕ} {first second : Span} {asking told : Bool} {X F : Selection} (halved : Halved from count first second)
    (ready : OutOfGround from count X) (more : count ≡ 1 → ⊥)
    (ok : Question) (tried : WholeTried ok from count asking X F told) (no : told ≡ false) where
  two : 2 ≤ count
  two = omega (arith, ready.some)

  left : F ≡ ready.P ++ (none (count / 2) ++ none ((count - count / 2) + ready.after))
  left =
      first_ground count (count / 2) ready.after F ready.P (omega arith)
      ((tried ready.P ready.after ready.long ready.ground).left_out no)

  -- the first half's part
  pub first_ready : OutOfGround first.from first.count F
  first_ready =
      rw halved.first_is
      (record { some = omega (arith, two); P = ready.P; after = (count - count / 2) + ready.after; long = ready.long; ground = left })

  module _ {F1 : Selection} {f1 a1 : ℕ} (worked : RelaxationWorked ok first.from first.count true F F1 f1 a1) where
    worked_first : RelaxationWorked ok from (count / 2) true F F1 f1 a1
    worked_first = rw halved.first_is at worked

    -- the second half's part
    pub second_ready : OutOfGround second.from second.count F1
    second_ready =
        let l = worked_first ready.P ((count - count / 2) + ready.after) ready.long left in
        rw halved.second_is
        (record {
          some = omega (arith, two);
          P = (halve_relax ok (middle (count / 2)) ready.P ((count - count / 2) + ready.after) true).set;
          after = ready.after;
          long = long_kept ok from (count / 2) ((count - count / 2) + ready.after) ready.P (omega (arith, two)) ready.long;
          ground =
              second_ground (count - count / 2) ready.after F1
              (halve_relax ok (middle (count / 2)) ready.P ((count - count / 2) + ready.after) true).set
              l.set;
        })

    module _ (dropping : Bool) {F2 : Selection} {f2 a2 : ℕ} (worked2 : RelaxationWorked ok second.from second.count dropping F1 F2 f2 a2) where
      -- the sums of the two stay small
      pub few_in_both : (f1 + f2 ≤ length X) × (a1 + a2 ≤ 2 * length X)
      few_in_both =
          omega (
            arith,
            few_in_relaxation ok first.from first.count true F F1 f1 a1 first_ready worked,
            few_in_relaxation ok second.from second.count dropping F1 F2 f2 a2 second_ready worked2,
            ap (λ (s : Span). s.count) halved.first_is,
            ap (λ (s : Span). s.count) halved.second_is,
            out_within ready,
          )

      -- the part is cut: both halves were worked, and the second was asked about where the first one dropped something
      pub is_cut :
          dropping ≡ ltb 0 f1 →
          (asked : ℕ) →
          asked ≡ bool_byte asking →
          RelaxationWorked ok from count asking X F2 (f1 + f2) (asked + (a1 + a2))
      is_cut same asked counted P after l g =
          let rest : ℕ = count - count / 2 in
          let k1 : Part = halve_relax ok (middle (count / 2)) P (rest + after) true in
          let l1 =
          worked_first P (rest + after) l
          (first_ground count (count / 2) after F P (omega arith) ((tried P after l g).left_out no)) in
          let l2 =
          (rw (halved.second_is, same) at worked2) k1.set after
          (long_kept ok from (count / 2) (rest + after) P (omega (arith, two)) l)
          (second_ground rest after F1 k1.set l1.set) in
          let k2 : Part = halve_relax ok (middle rest) k1.set after (ltb 0 f1) in
          let p =
          relax_is_cut ok half half_cuts P count after two asking
          (fails ok from count asking X F told tried no asked counted P after l g) k1 k2 refl
          (rw l1.found_is) in
          rw p
          (record {
            set = l2.set;
            found_is = omega (arith, l1.found_is, l2.found_is);
            asked_is = omega (arith, (one_question asking counted).0, l1.asked_is, l2.asked_is);
          })
