-- The bound by the reports: what stands in the bytes of a report is the method's answer, and so its count is bounded.
use Rattle.std.proofs.Common.{ℕ, ◌+◌, ◌-◌, ◌≤◌, ◌≡◌, sym, ap, ◌∙◌, true, List, arith, length, take, drop, length-take-le, drop_at, Ok}
use Rattle.table.specs.declared.record.Frame.{Frame}
use Rattle.table.specs.Reading.{reading}
use Rattle.table.specs.Kept.{order_of}
use Rattle.table.proofs.Accepted.{accepted_keeps}
use Rattle.table.proofs.RecordsStand.{length-words}
use Rattle.preference.specs.Selection.{kept, dropped}
use Rattle.preference.specs.Question.{Question}
use Rattle.preference.specs.Cut.{half}
use Rattle.preference.specs.Answer.{Answer, relaxation_by_halving}
use Rattle.preference.proofs.Selections.{kept_and_dropped, length_named}
use Rattle.preference.proofs.Trees.{half_cuts}
use Rattle.preference.proofs.Lengths.{length_conflict_one_by_one, length_relaxation_one_by_one, length_conflict_by_cut, length_relaxation_by_cut}
use Rattle.preference.proofs.Conflicts.{one_by_one_conflict_count, halving_conflict_count_by_the_list}
use Rattle.preference.proofs.Relaxations.{one_by_one_relaxation_count, halving_relaxation_count_by_the_list, no_relaxation_count}
use Rattle.explain.specs.declared.answers.Method.{Method}
use Rattle.explain.specs.declared.answers.Method.TheVariants.{ConflictByHalving, ConflictOneByOne, RelaxationByHalving, RelaxationOneByOne}
use Rattle.explain.specs.Methods.{answer_by}
use Rattle.report.specs.Report.{status_at, count_at, named_at}
use Rattle.report.proofs.Reports.{ReportRead, report_read}
use Rattle.promises.specs.Reports.{table_question, kind_by, room_for, numbers_of}
use Rattle.promises.specs.Calls.{Reported, ReportCall}
use Rattle.promises.specs.Demands.{TheReportsAreBounded, EveryReportIsBounded}
use Rattle.promises.proofs.Room.{room_within}
use Rattle.promises.proofs.DemandsHold.{right_answer_is_the_methods}

-- a method's set has a flag for each request
length_by : (method : Method) (ok : Question) (n : ℕ) → length (answer_by method ok n).set ≡ n
unfolding answer_by
length_by ConflictByHalving ok n = length_conflict_by_cut ok n half half_cuts
length_by ConflictOneByOne ok n = length_conflict_one_by_one ok n
length_by RelaxationByHalving ok n = length_relaxation_by_cut ok n half half_cuts
length_by RelaxationOneByOne ok n = length_relaxation_one_by_one ok n

-- what a reader finds in a report: the status and count of an answer, and how many requests its set keeps
pub record AnswerRead (after : List ℕ) (start : ℕ) (answer : Answer) : Type 0 where
  pub status : status_at after start ≡ answer.status
  pub count : count_at after start ≡ answer.asked
  pub named_many : named_at after start ≡ kept answer.set

module _ (t : List ℕ) (f : Frame) (e : reading t ≡ Ok f) (buffer : List ℕ) (start : ℕ) (room : room_for f.requests buffer start ≡ true) where
  module _ (method : Method) (n p : ℕ) (a : List ℕ) where
    -- the method's own answer
    abbrev answer : Answer
    answer = answer_by method (table_question t f) f.requests

    reported_is_read : Reported method t f buffer start n p a → AnswerRead a start answer
    reported_is_read told =
        record {
          status = read.status_read ∙ ap (λ (x : Answer). x.status) same;
          count = read.count_read ∙ ap (λ (x : Answer). x.asked) same;
          named_many = read.named_read ∙ ap (λ (x : Answer). length (numbers_of t f x)) same ∙ length_named (order_of t f) answer.set each;
        }
      where
        same : told.answer ≡ answer
        same = right_answer_is_the_methods method t f told.answer told.right

        each : length answer.set ≡ length (order_of t f)
        each = length_by method (table_question t f) f.requests ∙ sym (length-words f.requests t (f.order + 4))

        read : ReportRead a start (kind_by method) told.answer.status told.answer.asked (numbers_of t f told.answer)
        read =
            report_read a start (kind_by method) told.answer.status told.answer.asked (numbers_of t f told.answer) _
            (ap (λ (x : List ℕ). drop start x) told.left.buffer_is
            ∙ drop_at (take start buffer) _ start (length-take-le start buffer (room_within f.requests buffer start room)))

    -- the answer in the bytes that a call leaves
    answer_read : ReportCall method t buffer start n p a → AnswerRead a start answer
    answer_read call = reported_is_read (call.reported f e room)

  -- the bound of one table's reports
  the_reports_are_bounded : TheReportsAreBounded t f buffer start
  unfolding answer_by
  the_reports_are_bounded =
      record {
        conflict =
            λ n p a call.
            let read = answer_read ConflictByHalving n p a call in
            rw (read.count, read.named_many) (halving_conflict_count_by_the_list (table_question t f) f.requests few);
        relaxation =
            λ n p a call.
            let read = answer_read RelaxationByHalving n p a call in
            rw (read.count, read.named_many, left_out) (halving_relaxation_count_by_the_list (table_question t f) f.requests few);
        no_relaxation =
            λ n p a call fails.
            let read = answer_read RelaxationByHalving n p a call in
            rw read.count (no_relaxation_count (table_question t f) f.requests (sym read.status ∙ fails));
        conflict_one_by_one =
            λ n p a call works.
            let read = answer_read ConflictOneByOne n p a call in
            read.count ∙ one_by_one_conflict_count (table_question t f) f.requests (sym read.status ∙ works);
        relaxation_one_by_one =
            λ n p a call works.
            let read = answer_read RelaxationOneByOne n p a call in
            read.count ∙ one_by_one_relaxation_count (table_question t f) f.requests (sym read.status ∙ works);
      }
    where
      few : f.requests ≤ 64
      few = (accepted_keeps t f e).few_requests

      -- what a relaxation does not name is what it drops
      left_out :
          f.requests - kept (relaxation_by_halving (table_question t f) f.requests).set ≡ dropped (relaxation_by_halving (table_question t f) f.requests).set
      left_out =
          omega (
            arith,
            kept_and_dropped (relaxation_by_halving (table_question t f) f.requests).set,
            length_by RelaxationByHalving (table_question t f) f.requests,
          )

-- the bound by the reports
pub every_report_is_bounded : EveryReportIsBounded
every_report_is_bounded t f e buffer start room = the_reports_are_bounded t f e buffer start room
