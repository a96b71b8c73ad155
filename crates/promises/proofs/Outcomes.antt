-- One law for each way out of a public call: what it returns and leaves there keeps the call's promise.
use Rattle.std.proofs.Common.{ℕ, ◌≤◌, ◌≡◌, refl, subst, Bool, true, false, cond, ◌↔◌, List, arith, Ok, Err}
use Rattle.table.specs.declared.record.Frame.{Frame}
use Rattle.table.specs.declared.refusals.Refusal.{Refusal}
use Rattle.table.specs.Refusals.{number_of}
use Rattle.table.specs.Reading.{Reading, reading}
use Rattle.table.specs.Kept.{rows_of}
use Rattle.meaning.proofs.Standing.{stands_exactly}
use Rattle.preference.specs.Answer.{Answer}
use Rattle.explain.specs.declared.answers.Method.{Method}
use Rattle.promises.specs.Selecting.{names_above, selection_of, SomeSettingMeets, can_stand}
use Rattle.promises.specs.Reports.{table_question, room_for, place_after, buffer_after}
use Rattle.promises.specs.Calls.{names_too_much, no_room, Told, QuestionAnswered, CanStandCall, RightAnswer, Left, Reported, ReportCall}

-- true is not false
clash : {X : Type 0} {b : Bool} → b ≡ true → b ≡ false → X
clash e g = cc

module _ {told : Reading} where
  -- a table is not both accepted and refused
  pub not_both : {X : Type 0} {f : Frame} {r : Refusal} → told ≡ Ok f → told ≡ Err r → X
  not_both e g = cc

  -- it is refused in one way
  pub one_refusal : {r s : Refusal} → told ≡ Err r → told ≡ Err s → r ≡ s
  one_refusal e g = cc

  -- with one frame
  pub one_frame : {f g : Frame} → told ≡ Ok f → told ≡ Ok g → f ≡ g
  one_frame e g = cc

-- a selection stands exactly where some setting meets the host rows and those of the selected requests
pub can_stand_exactly : (t : List ℕ) (f : Frame) (selection : ℕ) → can_stand t f selection ≡ true ↔ SomeSettingMeets t f selection
unfolding can_stand
can_stand_exactly t f selection = stands_exactly (rows_of t f) f.variables (selection_of f.requests selection)

-- 1 or 0 for an answer
bit_of : (answer : Bool) → cond answer 1 0 ≤ 1
bit_of true = omega arith
bit_of false = omega arith

one_of : (answer : Bool) → ◌≡◌ {A = ℕ} (cond answer 1 0) 1 → answer ≡ true
one_of true e = refl
one_of false e = absurd (omega arith)

module _ (t : List ℕ) (selection : ℕ) where
  -- the question about a table that is refused
  pub can_stand_refused : (r : Refusal) → reading t ≡ Err r → CanStandCall t selection (number_of r.fault) 0 r.place
  can_stand_refused r e =
      record {
        refused =
            λ s g. subst (λ (x : Refusal). Told (number_of r.fault) 0 r.place (number_of x.fault) 0 x.place) (one_refusal e g)
            (record { number_is = refl; stands_is = refl; place_is = refl });
        too_much = λ f g. not_both g e;
        answered = λ f g. not_both g e;
      }

  module _ (f : Frame) (e : reading t ≡ Ok f) where
    -- a selection that names a request above N
    pub can_stand_too_much : names_above f.requests selection ≡ true → CanStandCall t selection names_too_much 0 0
    can_stand_too_much high =
        record {
          refused = λ r g. not_both e g;
          too_much = λ f g h. record { number_is = refl; stands_is = refl; place_is = refl };
          answered = λ other g h. clash (rw (one_frame e g) at high) h;
        }

    -- the question is answered
    pub can_stand_answered :
        names_above f.requests selection ≡ false → CanStandCall t selection 0 (cond (can_stand t f selection) 1 0) 0
    can_stand_answered low =
        record {
          refused = λ r g. not_both e g;
          too_much = λ other g h. clash h (rw (one_frame e g) at low);
          answered =
              λ other g h. subst (λ (x : Frame). QuestionAnswered t x selection 0 (cond (can_stand t f selection) 1 0) 0) (one_frame e g)
              (record { number_is = refl; place_is = refl; bit = bit_of (can_stand t f selection); exactly = one_exactly });
        }
      where
        one_exactly : ◌≡◌ {A = ℕ} (cond (can_stand t f selection) 1 0) 1 ↔ SomeSettingMeets t f selection
        one_exactly =
            let exactly = can_stand_exactly t f selection in
            (λ one. exactly.0 (one_of (can_stand t f selection) one), λ met. rw (exactly.1 met))

module _ (method : Method) (t buffer : List ℕ) (start : ℕ) where
  -- a report about a table that is refused
  pub report_refused : (r : Refusal) → reading t ≡ Err r → ReportCall method t buffer start (number_of r.fault) r.place buffer
  report_refused r e =
      record {
        refused =
            λ s g. subst (λ (x : Refusal). Left (number_of r.fault) r.place buffer (number_of x.fault) x.place buffer) (one_refusal e g)
            (record { number_is = refl; place_is = refl; buffer_is = refl });
        no_room = λ f g. not_both g e;
        reported = λ f g. not_both g e;
      }

  module _ (f : Frame) (e : reading t ≡ Ok f) where
    -- no room for it
    pub report_no_room : room_for f.requests buffer start ≡ false → ReportCall method t buffer start no_room 0 buffer
    report_no_room short =
        record {
          refused = λ r g. not_both e g;
          no_room = λ f g h. record { number_is = refl; place_is = refl; buffer_is = refl };
          reported = λ other g h. clash h (rw (one_frame e g) at short);
        }

    -- the report is written
    pub report_written :
        room_for f.requests buffer start ≡ true →
        (answer : Answer) →
        RightAnswer method (table_question t f) f.requests answer →
        ReportCall method t buffer start 0 (place_after t f start answer) (buffer_after method t f buffer start answer)
    report_written room answer right =
        record {
          refused = λ r g. not_both e g;
          no_room = λ other g h. clash (rw (one_frame e g) at room) h;
          reported =
              λ other g h.
              subst (λ (x : Frame). Reported method t x buffer start 0 (place_after t f start answer) (buffer_after method t f buffer start answer))
              (one_frame e g) told;
        }
      where
        told : Reported method t f buffer start 0 (place_after t f start answer) (buffer_after method t f buffer start answer)
        told = record { answer = answer; right = right; left = record { number_is = refl; place_is = refl; buffer_is = refl } }
