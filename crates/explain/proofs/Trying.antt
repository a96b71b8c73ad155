-- One by one in place: what holds before each request is tried, and in the end.
use Rattle.std.proofs.Common.{replicate, ℕ, suc, ◌+◌, ◌-◌, ◌≤◌, ◌<◌, ◌≡◌, refl, sym, ap, ◌∙◌, Bool}
use Rattle.std.proofs.Common.{true, false, [], ◌∷◌, ◌++◌, append_assoc, append-nil, arith, length}
use Rattle.std.proofs.Common.{set, length-set, length-append}
use Rattle.std.proofs.lemmas.List.{set_at}
use Rattle.preference.specs.Selection.{Selection, all, none}
use Rattle.preference.specs.Question.{Question}
use Rattle.preference.specs.Part.{Part}
use Rattle.preference.specs.OneByOne.{one_conflict, one_relax}
use Rattle.preference.proofs.Selections.{length-all, length_none, all_then_all}
use Rattle.preference.proofs.Preferred.{one_conflict_asks_each, one_relax_asks_each}
use Rattle.preference.proofs.Turns.{one_conflict_done, one_conflict_turn, one_relax_done, one_relax_turn}
use Rattle.explain.specs.Parts.{Worked, tried_at}

-- the conflict: the first `left` requests are still to be tried, and S is what was decided of those after them
pub record Removing (ok : Question) (n : ℕ) (X : Selection) (asked left : ℕ) : Type 0 where
  pub long : length X ≡ n
  pub counted : asked + left ≡ n
  pub S : Selection
  pub ground : X ≡ all left ++ S
  pub same : (one_conflict ok left S).set ≡ (one_conflict ok n []).set

module _ (ok : Question) where
  pub removing_begins : (n : ℕ) (F : Selection) → F ≡ replicate n true → Removing ok n F 0 n
  unfolding all
  removing_begins n F f =
      record {
        long = rw f (length-all n);
        counted = omega arith;
        S = [];
        ground = f ∙ sym (append-nil (all n));
        same = refl;
      }

  module _ (n : ℕ) (X : Selection) (asked left : ℕ) (r : Removing ok n X asked left) (more : 0 < left) where
    least : X ≡ all (left - 1) ++ (true ∷ r.S)
    least = let e : left ≡ suc (left - 1) = omega arith in r.ground ∙ ap (λ (k : ℕ). all k ++ r.S) e ∙ sym (all_then_all (left - 1) r.S)

    without : set X (left - 1) false ≡ all (left - 1) ++ (false ∷ r.S)
    without = ap (λ (Y : Selection). set Y (left - 1) false) least ∙ set_at (all (left - 1)) true r.S false (left - 1) (length-all (left - 1))

    -- one request is tried
    pub removing_turns :
        (F : Selection) → F ≡ tried_at ok (left - 1) false X → Removing ok n F (asked + 1) (left - 1)
    removing_turns F f =
        let keep : Bool = ok (set X (left - 1) false) in
        rw f
        (record {
          long = length-set (set X (left - 1) false) (left - 1) keep ∙ length-set X (left - 1) false ∙ r.long;
          counted = omega (arith, r.counted);
          S = keep ∷ r.S;
          ground =
              ap (λ (Y : Selection). set Y (left - 1) keep) without
              ∙ set_at (all (left - 1)) false r.S keep (left - 1) (length-all (left - 1));
          same = sym (ap (λ (p : Part). p.set) (one_conflict_turn ok left r.S keep more (sym (ap ok without)))) ∙ r.same;
        })

  -- none is left to try
  pub removing_done : (n : ℕ) (X : Selection) (asked left : ℕ) → Removing ok n X asked left → left ≤ 0 → Worked (one_conflict ok n []) X asked
  unfolding all
  removing_done n X asked left r h =
      let z : left ≡ 0 = omega arith in
      record {
        set = r.ground ∙ rw z (sym (ap (λ (p : Part). p.set) (one_conflict_done ok left r.S z)) ∙ r.same);
        asked_is = omega (arith, r.counted, one_conflict_asks_each ok n []);
        few = omega (arith, r.counted, r.long);
      }

-- the relaxation: P is what was decided of the first `place` requests, and those after them are still to be tried
pub record Adding (ok : Question) (n : ℕ) (X : Selection) (asked place : ℕ) : Type 0 where
  pub long : length X ≡ n
  pub counted : asked ≡ place
  pub within : place ≤ n
  pub P : Selection
  pub decided : length P ≡ place
  pub ground : X ≡ P ++ none (n - place)
  pub same : (one_relax ok P (n - place)).set ≡ (one_relax ok [] n).set

module _ (ok : Question) where
  pub adding_begins : (n : ℕ) (F : Selection) → F ≡ replicate n false → Adding ok n F 0 0
  unfolding none
  adding_begins n F f =
      let z : n - 0 ≡ n = omega arith in
      record {
        long = rw f (length_none n);
        counted = refl;
        within = omega arith;
        P = [];
        decided = refl;
        ground = rw z f;
        same = rw z;
      }

  module _ (n : ℕ) (X : Selection) (asked place : ℕ) (r : Adding ok n X asked place) (more : place < n) where
    next : X ≡ r.P ++ (false ∷ none (n - place - 1))
    unfolding none
    next = let e : n - place ≡ suc (n - place - 1) = omega arith in r.ground ∙ ap (λ (k : ℕ). r.P ++ none k) e

    added : set X place true ≡ r.P ++ (true ∷ none (n - place - 1))
    added = ap (λ (Y : Selection). set Y place true) next ∙ set_at r.P false (none (n - place - 1)) true place r.decided

    -- one request is tried
    pub adding_turns : (F : Selection) → F ≡ tried_at ok place true X → Adding ok n F (asked + 1) (place + 1)
    adding_turns F f =
        let keep : Bool = ok (set X place true) in
        let one : n - (place + 1) ≡ n - place - 1 = omega arith in
        rw f
        (record {
          long = length-set (set X place true) place keep ∙ length-set X place true ∙ r.long;
          counted = omega (arith, r.counted);
          within = omega arith;
          P = r.P ++ (keep ∷ []);
          decided = simp length-append (omega (arith, r.decided));
          ground =
              ap (λ (Y : Selection). set Y place keep) added
              ∙ set_at r.P true (none (n - place - 1)) keep place r.decided
              ∙ rw (one, append_assoc);
          same =
              rw one
              (sym (ap (λ (p : Part). p.set) (one_relax_turn ok r.P (n - place) keep (omega arith) (sym (ap ok added)))) ∙ r.same);
        })

  -- none is left to try
  pub adding_done : (n : ℕ) (X : Selection) (asked place : ℕ) → Adding ok n X asked place → n ≤ place → Worked (one_relax ok [] n) X asked
  unfolding none
  adding_done n X asked place r h =
      let z : n - place ≡ 0 = omega arith in
      record {
        set =
            r.ground ∙ rw z (append-nil r.P)
            ∙ sym (ap (λ (p : Part). p.set) (one_relax_done ok r.P (n - place) z)) ∙ r.same;
        asked_is = omega (arith, r.counted, r.within, one_relax_asks_each ok [] n);
        few = omega (arith, r.counted, r.within, r.long);
      }
