-- The shared start in place, and the four methods by name.
use Rattle.std.proofs.Common.{ℕ, ◌≡◌, sym, ap, ◌∙◌, Bool, true, false, arith, length, replicate}
use Rattle.preference.specs.Selection.{Selection, all, none}
use Rattle.preference.specs.Question.{Question}
use Rattle.preference.proofs.Selections.{length_none}
use Rattle.preference.proofs.Start.{start_all, start_empty, start_host, start_worked}
use Rattle.explain.specs.declared.answers.Begun.TheVariants.{AllStand, HostFails, Open}
use Rattle.explain.specs.Methods.{finished, left_by, BegunWell, Begins}

module _ (ok : Question) (X F : Selection) (answer : Bool) (e : F ≡ replicate (length X) true) (q : answer ≡ ok F) where
  all_set : F ≡ all (length X)
  unfolding all
  all_set = e

  all_asked : answer ≡ ok (all (length X))
  all_asked = q ∙ ap ok all_set

  -- all can stand
  pub begins_all : answer ≡ true → Begins ok (length X) AllStand F
  unfolding finished left_by BegunWell
  begins_all h =
      record { answer = λ whole worked. start_all ok (length X) whole worked (sym all_asked ∙ h); left = all_set; well = tt }

  module _ (no : answer ≡ false) (G : Selection) (d : G ≡ replicate (length F) false) (long : length F ≡ length X) where
    none_set : G ≡ none (length X)
    unfolding none
    none_set = d ∙ ap (λ (k : ℕ). replicate k false) long

    long_still : length G ≡ length X
    long_still = ap length none_set ∙ length_none (length X)

    -- there are no requests
    pub begins_empty : length G ≡ 0 → Begins ok (length X) (HostFails 1) G
    unfolding finished left_by BegunWell
    begins_empty z =
        record {
          answer = λ whole worked. start_empty ok (length X) whole worked (sym all_asked ∙ no) (sym long_still ∙ z);
          left = none_set;
          well = omega arith;
        }

    module _ (some : length G ≡ 0 → ⊥) (second : Bool) (k : second ≡ ok G) where
      -- the host can stand, and there is something to work
      pub begins_open : second ≡ true → Begins ok (length X) Open G
      unfolding finished left_by BegunWell
      begins_open h =
          record {
            answer =
                λ whole worked. start_worked ok (length X) whole worked (sym all_asked ∙ no) (omega (arith, long_still)) (sym (ap ok none_set) ∙ sym k ∙ h);
            left = none_set;
            well = omega (arith, long_still);
          }

      -- the host cannot
      pub begins_host_fails : second ≡ false → Begins ok (length X) (HostFails 2) G
      unfolding finished left_by BegunWell
      begins_host_fails h =
          record {
            answer =
                λ whole worked. start_host ok (length X) whole worked (sym all_asked ∙ no) (omega (arith, long_still)) (sym (ap ok none_set) ∙ sym k ∙ h);
            left = none_set;
            well = omega (arith, long_still);
          }
