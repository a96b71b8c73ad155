-- What a call hands back, held to the promises of the public calls.
use Rattle.std.proofs.Common.{◌≡◌, ℕ, ◌+◌, ◌-◌, Bool, true, false, List, Result, Ok, Err, length, take, drop, ap, refl}
use borrow.Rule.Slice.PartMut.{put_mid}
use Rattle.table.specs.declared.record.Frame.{Frame}
use Rattle.table.specs.declared.refusals.Refusal.{Refusal}
use Rattle.table.specs.Reading.{reading}
use Rattle.table.specs.Kept.{order_of}
use Rattle.explain.specs.declared.answers.Method.{Method}
use Rattle.report.proofs.InBuffer.{written_in_buffer}
use Rattle.promises.specs.Reports.{table_question, room_for, place_after, buffer_after}
use Rattle.promises.specs.Selecting.{names_above}
use Rattle.promises.specs.Calls.{CanStandCall, ReportCall}
use Rattle.promises.proofs.Monotone.{question_is_monotone}
use Rattle.promises.proofs.RightAnswers.{right_answer}
use Rattle.promises.proofs.Outcomes.{can_stand_refused, can_stand_too_much, can_stand_answered, report_refused, report_no_room, report_written}
use Rattle.hainscope.specs.declared.refused.Refused.{Refused}
use Rattle.hainscope.specs.declared.refused.Refused.TheVariants.{Table, NoRoom}
use Rattle.hainscope.specs.Refused.{number_told, end_told, stands_told, place_told}
use Rattle.hainscope.specs.Written.{verdict_of, table_answer, RecordWritten}

module _ (t : List ℕ) (selection : ℕ) (told : Result Bool Refused) where
  -- a question about a refused table
  pub question_refused :
      (r : Refusal) → reading t ≡ Err r → told ≡ Err (Table r) → CanStandCall t selection (number_told told) (stands_told told) (place_told told)
  question_refused r e h = rw h (can_stand_refused t selection r e)

  -- and about an accepted one
  pub question_told :
      (f : Frame) → reading t ≡ Ok f → told ≡ verdict_of t f selection → CanStandCall t selection (number_told told) (stands_told told) (place_told told)
  unfolding verdict_of
  question_told f e h = by (names_above f.requests selection) refl
    where
      by : (high : Bool) → names_above f.requests selection ≡ high → CanStandCall t selection (number_told told) (stands_told told) (place_told told)
      by true g = rw (rw g at h) (can_stand_too_much t selection f e g)
      by false g = rw (rw g at h) (can_stand_answered t selection f e g)

module _ (method : Method) (t buffer : List ℕ) (start : ℕ) where
  -- a report on a refused table
  pub report_refused_told :
      (told : Result ℕ Refused) (r : Refusal) →
      reading t ≡ Err r →
      told ≡ Err (Table r) →
      ReportCall method t buffer start (number_told told) (end_told told) buffer
  report_refused_told told r e h = rw h (report_refused method t buffer start r e)

  module _ (f : Frame) (e : reading t ≡ Ok f) where
    -- without room
    pub no_room_told :
        room_for f.requests buffer start ≡ false → ReportCall method t buffer start (number_told {A = ℕ} (Err NoRoom)) (end_told (Err NoRoom)) buffer
    no_room_told h = report_no_room method t buffer start f e h

    -- and one that is written
    pub written_told :
        (after : List ℕ) (end : ℕ) →
        room_for f.requests buffer start ≡ true →
        RecordWritten method t f (take (length buffer - start) (drop start buffer)) after end →
        ReportCall method t buffer start (number_told (Ok (start + end))) (end_told (Ok (start + end))) (put_mid start (length buffer - start) buffer after)
    written_told after end h w =
        let p : start + end ≡ place_after t f start (table_answer method t f) = ap (λ (k : ℕ). start + k) w.ends in
        let b : put_mid start (length buffer - start) buffer after ≡ buffer_after method t f buffer start (table_answer method t f) =
        rw p at (written_in_buffer buffer start w) in
        let reported : ReportCall method t buffer start 0 (start + end) (put_mid start (length buffer - start) buffer after) =
        rw (p, b) (report_written method t buffer start f e h (table_answer method t f)
        (right_answer method (table_question t f) f.requests (question_is_monotone t f (order_of t f) f.requests))) in
        reported
