-- The four methods in place by name: what each is handed after the start, and the whole answer.
use Rattle.std.proofs.Common.{ℕ, ◌+◌, ◌≤◌, ◌<◌, ◌≡◌, refl, sym, ◌∙◌, false, [], ◌++◌, append-nil, arith, length}
use Rattle.preference.specs.Selection.{Selection, all, none}
use Rattle.preference.specs.Question.{Question}
use Rattle.preference.specs.Cut.{middle}
use Rattle.preference.specs.Halving.{halve_conflict, halve_relax}
use Rattle.preference.specs.Answer.{answered}
use Rattle.explain.specs.declared.answers.Method.{Method}
use Rattle.explain.specs.declared.answers.Method.TheVariants.{ConflictByHalving, ConflictOneByOne, RelaxationByHalving, RelaxationOneByOne}
use Rattle.explain.specs.declared.answers.Begun.{Begun}
use Rattle.explain.specs.declared.answers.Begun.TheVariants.{AllStand, HostFails, Open}
use Rattle.explain.specs.Parts.{Worked, InGround, OutOfGround, ConflictWorked, RelaxationWorked}
use Rattle.explain.specs.Methods.{answer_by, whole_by, worked_by, finished, left_by, BegunWell, Begins, Answers}
use Rattle.explain.proofs.ConflictParts.{few_in_conflict}
use Rattle.explain.proofs.RelaxationParts.{few_in_relaxation}

module _ (X : Selection) (nobody : X ≡ none (length X)) (some : 0 < length X) where
  in_front : X ≡ all 0 ++ (none (length X) ++ [])
  unfolding all
  in_front = nobody ∙ sym (append-nil (none (length X)))

  -- the first part of a conflict: all the requests
  pub conflict_starts : InGround 0 (length X) X
  conflict_starts = record { some = some; S = []; ground = in_front }

  behind : X ≡ [] ++ (none (length X) ++ none 0)
  unfolding none
  behind = nobody ∙ sym (append-nil (none (length X)))

  -- the first part of a relaxation
  pub relaxation_starts : OutOfGround 0 (length X) X
  relaxation_starts = record { some = some; P = []; after = 0; long = refl; ground = behind }

  module _ (ok : Question) (F : Selection) (found asked : ℕ) (long : length F ≡ length X) where
    pub conflict_told :
        ConflictWorked ok 0 (length X) false X F found asked → Worked (halve_conflict ok (middle (length X)) 0 false []) F asked
    unfolding all
    conflict_told worked =
        let l = worked [] in_front in
        record {
          set = l.set;
          asked_is = l.asked_is;
          few = omega (arith, long, few_in_conflict ok 0 (length X) false X F found asked conflict_starts worked);
        }

    pub relaxation_told :
        RelaxationWorked ok 0 (length X) false X F found asked → Worked (halve_relax ok (middle (length X)) [] 0 false) F asked
    unfolding none
    relaxation_told worked =
        let l = worked [] 0 refl behind in
        record {
          set = l.set ∙ append-nil _;
          asked_is = l.asked_is;
          few = omega (arith, long, few_in_relaxation ok 0 (length X) false X F found asked relaxation_starts worked);
        }

-- a method's answer is the shared start's, with its own whole and work
pub answer_is : (method : Method) (ok : Question) (n : ℕ) → answer_by method ok n ≡ answered ok n (whole_by method n) (worked_by method ok n)
unfolding answer_by whole_by worked_by
answer_is ConflictByHalving ok n = refl
answer_is ConflictOneByOne ok n = refl
answer_is RelaxationByHalving ok n = refl
answer_is RelaxationOneByOne ok n = refl

module _ (method : Method) (ok : Question) (n : ℕ) (begun : Begun) (F : Selection) (begins : Begins ok n begun F) where
  start_is : answer_by method ok n ≡ finished begun n (whole_by method n) (worked_by method ok n)
  start_is = answer_is method ok n ∙ begins.answer (whole_by method n) (worked_by method ok n)

  -- all can stand
  pub answers_all : begun ≡ AllStand → (G : Selection) → G ≡ whole_by method n → Answers (answer_by method ok n) n G 0 1
  unfolding finished
  answers_all b G e = record { is = rw (start_is, b, e); small_status = omega arith; few_asked = omega arith }

  -- the host cannot
  pub answers_host_fails : (asked : ℕ) → begun ≡ HostFails asked → Answers (answer_by method ok n) n F 2 asked
  unfolding finished left_by BegunWell
  answers_host_fails asked b =
      let w : asked ≤ 2 = rw b at begins.well in
      let l : F ≡ none n = rw b at begins.left in
      record { is = rw (start_is, b, l); small_status = omega arith; few_asked = omega arith }

  -- the flags that the method's work is handed
  pub open_none : begun ≡ Open → F ≡ none n
  unfolding left_by
  open_none b = rw b at begins.left

  pub open_some : begun ≡ Open → 0 < n
  unfolding BegunWell
  open_some b = rw b at begins.well

  -- the method has worked
  pub answers_worked :
      begun ≡ Open →
      (G : Selection) (asked : ℕ) →
      length G ≡ n →
      Worked (worked_by method ok n) G asked →
      Answers (answer_by method ok n) n G 1 (2 + asked)
  unfolding finished
  answers_worked b G asked long tells =
      record { is = rw (start_is, b, tells.set, tells.asked_is); small_status = omega arith; few_asked = omega (arith, tells.few) }
