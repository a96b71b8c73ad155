-- Demands 1 to 3 and the bound hold of every table (that every call is answered, and in one way, stands in OnlyOne).
use Rattle.std.proofs.Common.{ℕ, ◌≡◌, refl, sym, ap, ◌∙◌, Bool, true, false, List, Ok}
use Rattle.table.specs.declared.record.Frame.{Frame}
use Rattle.table.specs.Reading.{reading}
use Rattle.table.specs.Kept.{Kept, order_of}
use Rattle.table.proofs.Accepted.{accepted_keeps}
use Rattle.table.proofs.Scanned.{keeps_accepted}
use Rattle.table.proofs.OneMeaning.{accepted_is_model}
use Rattle.preference.specs.Selection.{Selection, all, none}
use Rattle.preference.specs.Question.{Question, Monotone, Agree, Conflict, Relaxation}
use Rattle.preference.specs.Cut.{half}
use Rattle.preference.specs.Answer.{Answer}
use Rattle.preference.proofs.Trees.{half_cuts}
use Rattle.preference.proofs.Selections.{length-all, length_none}
use Rattle.preference.proofs.Conflicts.{no_conflict_where_all_stand, halving_conflict_gives_the_one_by_one_conflict, halving_conflict_is_preferred}
use Rattle.preference.proofs.Conflicts.{halving_conflict_count_by_the_list, one_by_one_conflict_asks_nothing_else, halving_conflict_asks_nothing_else}
use Rattle.preference.proofs.Relaxations.{no_relaxation_where_the_host_fails}
use Rattle.preference.proofs.Relaxations.{halving_relaxation_gives_the_one_by_one_relaxation, halving_relaxation_is_preferred}
use Rattle.preference.proofs.Relaxations.{halving_relaxation_count_by_the_list, no_relaxation_count, one_by_one_relaxation_asks_nothing_else}
use Rattle.preference.proofs.Relaxations.{halving_relaxation_asks_nothing_else}
use Rattle.explain.specs.declared.answers.Method.{Method}
use Rattle.explain.specs.declared.answers.Method.TheVariants.{ConflictByHalving, ConflictOneByOne, RelaxationByHalving, RelaxationOneByOne}
use Rattle.explain.specs.Methods.{answer_by}
use Rattle.promises.specs.Reports.{table_question, room_for}
use Rattle.promises.specs.Calls.{RightAnswer, Left, Reported, ReportCall}
use Rattle.promises.specs.Demands.{TablesAreReadRight, TheSetsAreRight, EveryTableHasTheRightSets}
use Rattle.promises.specs.Demands.{StandAlike, ReportsTellNoMore, TheCountIsBounded, EveryCountIsBounded}
use Rattle.promises.proofs.Monotone.{question_is_monotone}
use Rattle.promises.proofs.RightAnswers.{right_answer, only_one_right_answer}
use Rattle.promises.proofs.Outcomes.{can_stand_exactly}
use Rattle.promises.proofs.OnlyOne.{same_left}
use Rattle.promises.proofs.PublicQuestion.{questions_agree}
use Rattle.promises.proofs.EverySelection.{every_selection_is_asked}
use Rattle.promises.proofs.WholeSelection.{all_requests_asked_in_public, host_alone_asked_in_public}

-- ---- demand 1

-- tables are accepted exactly where they are well formed, and stand for a model
pub tables_are_read_right : TablesAreReadRight
tables_are_read_right =
    record { well_formed = λ t f. (accepted_keeps t f, keeps_accepted t f); stands_for_a_model = accepted_is_model }

-- ---- demand 2

module _ (ok : Question) (n : ℕ) where
  -- without a conflict all requests stand together
  all_stand_without_conflict : ((X : Selection) → Conflict ok n X → ⊥) → ok (all n) ≡ true
  all_stand_without_conflict nobody = by (ok (all n)) refl
    where
      by : (told : Bool) → ok (all n) ≡ told → ok (all n) ≡ true
      by true e = e
      by false e = absurd (nobody (all n) (record { over = length-all n; fails = e }))

  -- without a relaxation the host's rows fail
  host_fails_without_relaxation : ((X : Selection) → Relaxation ok n X → ⊥) → ok (none n) ≡ false
  host_fails_without_relaxation nobody = by (ok (none n)) refl
    where
      by : (told : Bool) → ok (none n) ≡ told → ok (none n) ≡ false
      by false e = e
      by true e = absurd (nobody (none n) (record { over = length_none n; stands = e }))

module _ (t : List ℕ) (f : Frame) where
  -- the table's question is monotone over its requests
  monotone : Monotone (table_question t f) f.requests
  monotone = question_is_monotone t f (order_of t f) f.requests

  -- demand 2 of one table
  pub the_sets_are_right : Kept t f → TheSetsAreRight t f
  the_sets_are_right kept =
      record {
        stands_exactly = can_stand_exactly t f;
        every_selection = every_selection_is_asked t f kept;
        all_requests = all_requests_asked_in_public t f kept;
        host_alone = host_alone_asked_in_public t f kept;
        same_conflict = (halving_conflict_gives_the_one_by_one_conflict (table_question t f) f.requests monotone).set;
        same_relaxation = (halving_relaxation_gives_the_one_by_one_relaxation (table_question t f) f.requests monotone).set;
        no_conflict =
            (all_stand_without_conflict (table_question t f) f.requests, no_conflict_where_all_stand (table_question t f) f.requests monotone);
        no_relaxation =
            (host_fails_without_relaxation (table_question t f) f.requests, no_relaxation_where_the_host_fails (table_question t f) f.requests monotone);
        conflict = halving_conflict_is_preferred (table_question t f) f.requests monotone half half_cuts;
        relaxation = halving_relaxation_is_preferred (table_question t f) f.requests monotone half half_cuts;
      }

-- the right answer about a table is the method's
pub right_answer_is_the_methods :
    (method : Method) (t : List ℕ) (f : Frame) (a : Answer) →
    RightAnswer method (table_question t f) f.requests a →
    a ≡ answer_by method (table_question t f) f.requests
right_answer_is_the_methods method t f a right =
    only_one_right_answer method (table_question t f) f.requests a _ right (right_answer method (table_question t f) f.requests (monotone t f))

-- the bound of one table
pub the_count_is_bounded : (t : List ℕ) (f : Frame) → Kept t f → TheCountIsBounded t f
unfolding answer_by
the_count_is_bounded t f kept =
    record {
      conflict =
          λ a right. rw (right_answer_is_the_methods ConflictByHalving t f a right)
          (halving_conflict_count_by_the_list (table_question t f) f.requests kept.few_requests);
      relaxation =
          λ a right. rw (right_answer_is_the_methods RelaxationByHalving t f a right)
          (halving_relaxation_count_by_the_list (table_question t f) f.requests kept.few_requests);
      no_relaxation =
          λ a right e.
          let same = right_answer_is_the_methods RelaxationByHalving t f a right in
          rw same (no_relaxation_count (table_question t f) f.requests (rw same at e));
    }

-- demand 2: halving and one by one give the same sets, and they are the right ones
pub every_table_has_the_right_sets : EveryTableHasTheRightSets
every_table_has_the_right_sets t f e = the_sets_are_right t f (accepted_keeps t f e)

-- the bound: the halving count is at most 2 + 2kd
pub every_count_is_bounded : EveryCountIsBounded
every_count_is_bounded t f e = the_count_is_bounded t f (accepted_keeps t f e)

-- ---- demand 3

-- questions that agree get one answer by each method
pub agreeing_questions_get_one_answer :
    (method : Method) (ok other : Question) (n : ℕ) → Agree n ok other → answer_by method ok n ≡ answer_by method other n
unfolding answer_by
agreeing_questions_get_one_answer ConflictByHalving ok other n agree = halving_conflict_asks_nothing_else ok n other agree half half_cuts
agreeing_questions_get_one_answer ConflictOneByOne ok other n agree = one_by_one_conflict_asks_nothing_else ok n other agree
agreeing_questions_get_one_answer RelaxationByHalving ok other n agree = halving_relaxation_asks_nothing_else ok n other agree half half_cuts
agreeing_questions_get_one_answer RelaxationOneByOne ok other n agree = one_by_one_relaxation_asks_nothing_else ok n other agree

module _ (t u : List ℕ) (f g : Frame) (e : reading t ≡ Ok f) (e' : reading u ≡ Ok g) (alike : StandAlike t f u g) (method : Method) where
  -- the methods' answers about two tables that stand alike are one
  pub answers_are_alike : answer_by method (table_question t f) f.requests ≡ answer_by method (table_question u g) g.requests
  answers_are_alike =
      agreeing_questions_get_one_answer method (table_question t f) (table_question u g) f.requests
      (questions_agree t f u g (accepted_keeps t f e) (accepted_keeps u g e') alike)
      ∙ ap (λ (n : ℕ). answer_by method (table_question u g) n) alike.requests

  module _ (buffer : List ℕ) (start n p : ℕ) (a : List ℕ) (n' p' : ℕ) (a' : List ℕ) where
    -- so are the reports, which differ in nothing but the order and the answer
    reports_are_alike : Reported method t f buffer start n p a → Reported method u g buffer start n' p' a' → Left n p a n' p' a'
    reports_are_alike one other =
        same_left (rw (alike.order, answers) at one.left) other.left
      where
        answers : one.answer ≡ other.answer
        answers =
            right_answer_is_the_methods method t f one.answer one.right
            ∙ answers_are_alike
            ∙ sym (right_answer_is_the_methods method u g other.answer other.right)

    -- and the calls, with room or without
    calls_are_alike : ReportCall method t buffer start n p a → ReportCall method u buffer start n' p' a' → Left n p a n' p' a'
    calls_are_alike one other = by (room_for f.requests buffer start) refl
      where
        by : (room : Bool) → room_for f.requests buffer start ≡ room → Left n p a n' p' a'
        by true h = reports_are_alike (one.reported f e h) (other.reported g e' (rw (← alike.requests) h))
        by false h = same_left (one.no_room f e h) (other.no_room g e' (rw (← alike.requests) h))

-- demand 3: two accepted tables that stand alike give equal reports, byte for byte
pub reports_tell_no_more : ReportsTellNoMore
reports_tell_no_more t u f g e e' alike method buffer start n p a n' p' a' one other =
    calls_are_alike t u f g e e' alike method buffer start n p a n' p' a' one other
