-- Demand 1: every call has an outcome that keeps its promise, and only one.
use Rattle.std.proofs.Common.{ℕ, zero, suc, ◌≤◌, ◌≡◌, refl, sym, subst, ◌∙◌, Bool, true, false, cond, ◌↔◌, List, arith, Ok, Err}
use Rattle.table.specs.declared.record.Frame.{Frame}
use Rattle.table.specs.Refusals.{number_of}
use Rattle.table.specs.Reading.{Reading, reading, number_of_reading, place_of_reading}
use Rattle.table.specs.Body.{stretch_of, number_of_stretch, place_of_stretch, size_of_stretch}
use Rattle.table.specs.Kept.{order_of}
use Rattle.preference.specs.Answer.{Answer}
use Rattle.explain.specs.declared.answers.Method.{Method}
use Rattle.explain.specs.Methods.{answer_by}
use Rattle.promises.specs.Selecting.{names_above, can_stand}
use Rattle.promises.specs.Reports.{table_question, room_for, place_after, buffer_after}
use Rattle.promises.specs.Calls.{names_too_much, no_room, Told, QuestionAnswered, CanStandCall, Left, Reported, ReportCall}
use Rattle.promises.specs.Demands.{EveryCallIsAnswered, OnlyOneOutcome}
use Rattle.promises.proofs.Monotone.{question_is_monotone}
use Rattle.promises.proofs.RightAnswers.{right_answer, only_one_right_answer}
use Rattle.promises.proofs.Outcomes.{can_stand_refused, can_stand_too_much, can_stand_answered, report_refused, report_no_room, report_written}

-- two refusals that are told alike
pub same_told : {n s p n' s' p' n'' s'' p'' : ℕ} → Told n s p n'' s'' p'' → Told n' s' p' n'' s'' p'' → Told n s p n' s' p'
same_told a b =
    record {
      number_is = a.number_is ∙ sym b.number_is;
      stands_is = a.stands_is ∙ sym b.stands_is;
      place_is = a.place_is ∙ sym b.place_is;
    }

-- two numbers that are 0 or 1, and 1 where the same holds
same_bit : {P : Type 0} (a b : ℕ) → a ≤ 1 → b ≤ 1 → (a ≡ 1 ↔ P) → (b ≡ 1 ↔ P) → a ≡ b
same_bit zero zero h g p q = refl
same_bit zero (suc b) h g p q = let e : suc b ≡ 1 = omega arith in absurd (let z : ◌≡◌ {A = ℕ} 0 1 = p.1 (q.0 e) in omega arith)
same_bit (suc a) b h g p q = let e : suc a ≡ 1 = omega arith in e ∙ sym (q.1 (p.0 e))

-- two answers to one question
same_stands :
    {t : List ℕ} {f : Frame} {selection n s p n' s' p' : ℕ} →
    QuestionAnswered t f selection n s p →
    QuestionAnswered t f selection n' s' p' →
    Told n s p n' s' p'
same_stands {s = s} {s' = s'} a b =
    record {
      number_is = a.number_is ∙ sym b.number_is;
      stands_is = same_bit s s' a.bit b.bit a.exactly b.exactly;
      place_is = a.place_is ∙ sym b.place_is;
    }

-- two calls that leave the same
pub same_left :
    {n p n' p' n'' p'' : ℕ} {a a' a'' : List ℕ} → Left n p a n'' p'' a'' → Left n' p' a' n'' p'' a'' → Left n p a n' p' a'
same_left a b =
    record {
      number_is = a.number_is ∙ sym b.number_is;
      place_is = a.place_is ∙ sym b.place_is;
      buffer_is = a.buffer_is ∙ sym b.buffer_is;
    }

-- the right answers of two reports are one, so they leave the same
same_reported :
    {method : Method} {t : List ℕ} {f : Frame} {buffer : List ℕ} {start n p n' p' : ℕ} {a a' : List ℕ} →
    Reported method t f buffer start n p a →
    Reported method t f buffer start n' p' a' →
    Left n p a n' p' a'
same_reported {method} {t} {f} {buffer} {start} {n} {p} {n'} {p'} {a} {a'} one other =
    let e = only_one_right_answer method (table_question t f) f.requests one.answer other.answer one.right other.right in
    same_left
    (subst (λ (x : Answer). Left n p a 0 (place_after t f start x) (buffer_after method t f buffer start x)) e one.left)
    other.left

-- the question has one answer
only_one_answer :
    (t : List ℕ) (selection n s p n' s' p' : ℕ) → CanStandCall t selection n s p → CanStandCall t selection n' s' p' → Told n s p n' s' p'
only_one_answer t selection n s p n' s' p' one other = by (reading t) refl
  where
    within : (f : Frame) → reading t ≡ Ok f → (high : Bool) → names_above f.requests selection ≡ high → Told n s p n' s' p'
    within f e true h = same_told (one.too_much f e h) (other.too_much f e h)
    within f e false h = same_stands (one.answered f e h) (other.answered f e h)

    by : (told : Reading) → reading t ≡ told → Told n s p n' s' p'
    by (Ok f) e = within f e (names_above f.requests selection) refl
    by (Err r) e = same_told (one.refused r e) (other.refused r e)

-- and a report leaves one number, place and buffer
only_one_report :
    (method : Method) (t buffer : List ℕ) (start n p : ℕ) (a : List ℕ) (n' p' : ℕ) (a' : List ℕ) →
    ReportCall method t buffer start n p a →
    ReportCall method t buffer start n' p' a' →
    Left n p a n' p' a'
only_one_report method t buffer start n p a n' p' a' one other = by (reading t) refl
  where
    within : (f : Frame) → reading t ≡ Ok f → (room : Bool) → room_for f.requests buffer start ≡ room → Left n p a n' p' a'
    within f e true h = same_reported (one.reported f e h) (other.reported f e h)
    within f e false h = same_left (one.no_room f e h) (other.no_room f e h)

    by : (told : Reading) → reading t ≡ told → Left n p a n' p' a'
    by (Ok f) e = within f e (room_for f.requests buffer start) refl
    by (Err r) e = same_left (one.refused r e) (other.refused r e)

-- each call has at most one outcome
pub only_one_outcome : OnlyOneOutcome
only_one_outcome =
    record {
      read = λ t n p n' p' one other. (one.number_is ∙ sym other.number_is, one.place_is ∙ sym other.place_is);
      body =
          λ t wanted n s p n' s' p' one other. (
            one.number_is ∙ sym other.number_is,
            one.size_is ∙ sym other.size_is,
            one.place_is ∙ sym other.place_is,
          );
      can_stand = only_one_answer;
      report = only_one_report;
    }

-- the question is answered
some_answer : (t : List ℕ) (selection : ℕ) → (number : ℕ) × (stands : ℕ) × (place : ℕ) × CanStandCall t selection number stands place
some_answer t selection = by (reading t) refl
  where
    within :
        (f : Frame) → reading t ≡ Ok f → (high : Bool) → names_above f.requests selection ≡ high →
        (number : ℕ) × (stands : ℕ) × (place : ℕ) × CanStandCall t selection number stands place
    within f e true h = (names_too_much, 0, 0, can_stand_too_much t selection f e h)
    within f e false h = (0, cond (can_stand t f selection) 1 0, 0, can_stand_answered t selection f e h)

    by : (told : Reading) → reading t ≡ told → (number : ℕ) × (stands : ℕ) × (place : ℕ) × CanStandCall t selection number stands place
    by (Ok f) e = within f e (names_above f.requests selection) refl
    by (Err r) e = ((number_of r.fault), 0, r.place, can_stand_refused t selection r e)

-- a report is given, or refused
some_report :
    (method : Method) (t buffer : List ℕ) (start : ℕ) →
    (number : ℕ) × (place : ℕ) × (after : List ℕ) × ReportCall method t buffer start number place after
some_report method t buffer start = by (reading t) refl
  where
    within :
        (f : Frame) → reading t ≡ Ok f → (room : Bool) → room_for f.requests buffer start ≡ room →
        (number : ℕ) × (place : ℕ) × (after : List ℕ) × ReportCall method t buffer start number place after
    within f e true h =
        let answer : Answer = answer_by method (table_question t f) f.requests in (
          0,
          place_after t f start answer,
          buffer_after method t f buffer start answer,
          report_written method t buffer start f e h answer
              (right_answer method (table_question t f) f.requests (question_is_monotone t f (order_of t f) f.requests)),
        )
    within f e false h = (no_room, 0, buffer, report_no_room method t buffer start f e h)

    by : (told : Reading) → reading t ≡ told → (number : ℕ) × (place : ℕ) × (after : List ℕ) × ReportCall method t buffer start number place after
    by (Ok f) e = within f e (room_for f.requests buffer start) refl
    by (Err r) e = ((number_of r.fault), r.place, buffer, report_refused method t buffer start r e)

-- and each has one
pub every_call_is_answered : EveryCallIsAnswered
every_call_is_answered =
    record {
      read = λ t. (number_of_reading (reading t), place_of_reading (reading t), record { number_is = refl; place_is = refl });
      body =
          λ t wanted. (
            number_of_stretch (stretch_of t wanted),
            size_of_stretch (stretch_of t wanted),
            place_of_stretch (stretch_of t wanted),
            record { number_is = refl; size_is = refl; place_is = refl },
          );
      can_stand = some_answer;
      report = some_report;
    }
