-- Demand 2 by the reports: what halving and one by one write about a table differs in the four bytes of the count alone.
use Rattle.std.proofs.Common.{ℕ, ◌+◌, ◌*◌, ◌≤◌, ◌≡◌, refl, sym, ap, ◌∙◌, true, List, ◌++◌, length, take, drop, length-take-le, Ok}
use Rattle.std.proofs.Math.Seq.{take-append-add, drop-append-add}
use Rattle.table.specs.declared.record.Frame.{Frame}
use Rattle.table.specs.Reading.{reading}
use Rattle.table.specs.Kept.{order_of}
use Rattle.preference.specs.Selection.{Selection}
use Rattle.preference.specs.Named.{named}
use Rattle.preference.specs.Answer.{Answer, SameAnswer}
use Rattle.preference.proofs.Conflicts.{halving_conflict_gives_the_one_by_one_conflict}
use Rattle.preference.proofs.Relaxations.{halving_relaxation_gives_the_one_by_one_relaxation}
use Rattle.explain.specs.declared.answers.Method.{Method}
use Rattle.explain.specs.declared.answers.Method.TheVariants.{ConflictByHalving, ConflictOneByOne, RelaxationByHalving, RelaxationOneByOne}
use Rattle.explain.specs.Methods.{answer_by}
use Rattle.table.specs.Encoding.{u16, u32, record_of}
use Rattle.report.specs.Report.{report_body, report_bytes}
use Rattle.promises.specs.Reports.{table_question, kind_by, room_for}
use Rattle.promises.specs.Calls.{Reported, ReportCall}
use Rattle.promises.specs.Demands.{SameButTheCount, BothMethodsTellOneSet}
use Rattle.promises.proofs.Room.{room_within}
use Rattle.promises.proofs.Monotone.{question_is_monotone}
use Rattle.promises.proofs.DemandsHold.{right_answer_is_the_methods}

module _ (kind status count count' start : ℕ) (numbers front rest : List ℕ) (long : length front ≡ start) where
  -- a report with another count is the same before it
  same_first_bytes :
      take (start + 6) (front ++ (report_bytes kind status count numbers ++ rest))
      ≡ take (start + 6) (front ++ (report_bytes kind status count' numbers ++ rest))
  unfolding report_bytes record_of report_body u16 u32
  same_first_bytes = rw (← long, take-append-add, take-append-add)

  -- and behind it
  same_last_bytes :
      drop (start + 10) (front ++ (report_bytes kind status count numbers ++ rest))
      ≡ drop (start + 10) (front ++ (report_bytes kind status count' numbers ++ rest))
  unfolding report_bytes record_of report_body u16 u32
  same_last_bytes = rw (← long, drop-append-add, drop-append-add)

module _ (method other : Method) (t : List ℕ) (f : Frame) (buffer : List ℕ) (start n p : ℕ) (a : List ℕ) (n' p' : ℕ) (a' : List ℕ) where
  -- two methods for the same kind of report that find the same
  written_alike :
      kind_by method ≡ kind_by other →
      SameAnswer (answer_by method (table_question t f) f.requests) (answer_by other (table_question t f) f.requests) →
      start ≤ length buffer →
      Reported method t f buffer start n p a →
      Reported other t f buffer start n' p' a' →
      SameButTheCount start p p' a a'
  written_alike kinds same within one two =
      record {
        same_place =
            one.left.place_is
            ∙ ap (λ (set : Selection). start + (12 + 2 * length (named (order_of t f) set))) sets
            ∙ sym two.left.place_is;
        same_before =
            rw (one.left.buffer_is, two.left.buffer_is, kinds, statuses, sets)
            (same_first_bytes (kind_by other) _ _ _ start _ (take start buffer) _ (length-take-le start buffer within));
        same_behind =
            rw (one.left.buffer_is, two.left.buffer_is, kinds, statuses, sets)
            (same_last_bytes (kind_by other) _ _ _ start _ (take start buffer) _ (length-take-le start buffer within));
      }
    where
      one_is : one.answer ≡ answer_by method (table_question t f) f.requests
      one_is = right_answer_is_the_methods method t f one.answer one.right

      two_is : two.answer ≡ answer_by other (table_question t f) f.requests
      two_is = right_answer_is_the_methods other t f two.answer two.right

      statuses : one.answer.status ≡ two.answer.status
      statuses = ap (λ (x : Answer). x.status) one_is ∙ same.status ∙ sym (ap (λ (x : Answer). x.status) two_is)

      sets : one.answer.set ≡ two.answer.set
      sets = ap (λ (x : Answer). x.set) one_is ∙ same.set ∙ sym (ap (λ (x : Answer). x.set) two_is)

module _
    (t : List ℕ) (f : Frame) (e : reading t ≡ Ok f) (buffer : List ℕ) (start : ℕ) (room : room_for f.requests buffer start ≡ true)
    (n p : ℕ) (a : List ℕ) (n' p' : ℕ) (a' : List ℕ) where
  -- the two conflict calls write the same but the count
  pub both_conflict_reports_tell_one_set :
      ReportCall ConflictByHalving t buffer start n p a → ReportCall ConflictOneByOne t buffer start n' p' a' → SameButTheCount start p p' a a'
  unfolding answer_by kind_by
  both_conflict_reports_tell_one_set one two =
      written_alike ConflictByHalving ConflictOneByOne t f buffer start n p a n' p' a' refl
      (halving_conflict_gives_the_one_by_one_conflict (table_question t f) f.requests (question_is_monotone t f (order_of t f) f.requests))
      (room_within f.requests buffer start room)
      (one.reported f e room)
      (two.reported f e room)

  -- and so do the two relaxation calls
  pub both_relaxation_reports_tell_one_set :
      ReportCall RelaxationByHalving t buffer start n p a → ReportCall RelaxationOneByOne t buffer start n' p' a' → SameButTheCount start p p' a a'
  unfolding answer_by kind_by
  both_relaxation_reports_tell_one_set one two =
      written_alike RelaxationByHalving RelaxationOneByOne t f buffer start n p a n' p' a' refl
      (halving_relaxation_gives_the_one_by_one_relaxation (table_question t f) f.requests (question_is_monotone t f (order_of t f) f.requests))
      (room_within f.requests buffer start room)
      (one.reported f e room)
      (two.reported f e room)

-- demand 2 by the reports
pub both_methods_tell_one_set : BothMethodsTellOneSet
both_methods_tell_one_set = record { conflict = both_conflict_reports_tell_one_set; relaxation = both_relaxation_reports_tell_one_set }
