-- The reading of a table (document 01, "Refusal numbers"): every call tests the table first, 1 once, then on each record in turn
-- 2, 4, 3, 7, 10, 5, 6, 8, 9, stopping at the first.
use Rattle.std.specs.Prelude.{ℕ, zero, suc, Bool, true, false, cond, List, length, nat_lt, Result, Ok, Err}
use Rattle.table.specs.declared.record.Phase.{Phase}
use Rattle.table.specs.declared.record.Phase.TheVariants.{Start, Rows, Ordered, Checked}
use Rattle.table.specs.declared.record.Frame.{Frame}
use Rattle.table.specs.declared.record.State.{State}
use Rattle.table.specs.declared.refusals.Refusal.{Refusal}
use Rattle.table.specs.Kinds.{Kind, is_known}
use Rattle.table.specs.Rows.{kind_at, length_at, after}
use Rattle.table.specs.Limits.{most_bytes}
use Rattle.table.specs.Refusals.{Fault, TooLong, Cut, NoHead, UnknownKind, WrongLength, OutOfRange, OutOfSequence, NamedTwice, NotZero, TooManyRows, number_of}
use Rattle.table.specs.Tests.{is_whole, head_first, in_sequence, room_for_row, length_right, in_range, no_repeat, adds_to_zero, next_phase, next_frame}

-- what one record does: the state after it, or what is wrong with it
abbrev pub Step : Type 0
Step = Result State Fault

-- what reading a table gives: it is accepted with its frame, or refused
abbrev pub Reading : Type 0
Reading = Result Frame Refusal

-- a test that must hold, the fault where it does not, and what comes after it
abbrev pub refuse_unless : Bool → Fault → Step → Step
refuse_unless true fault rest = rest
refuse_unless false fault rest = Err fault

-- the tests of a record of a known place and kind, in their order, and the state after it
unfoldable pub rule_of : Kind → List ℕ → ℕ → State → Step
rule_of kind t at s =
    refuse_unless (is_known kind) UnknownKind
    (refuse_unless (head_first s.phase kind) NoHead
    (refuse_unless (in_sequence s.phase kind) OutOfSequence
    (refuse_unless (room_for_row kind s.frame.rows) TooManyRows
    (refuse_unless (length_right kind s.frame.requests (length_at t at)) WrongLength
    (refuse_unless (in_range kind t at s.frame) OutOfRange
    (refuse_unless (no_repeat kind t at s.frame) NamedTwice
    (refuse_unless (adds_to_zero kind t at) NotZero
    (Ok (record { phase = next_phase kind; frame = next_frame kind t at s.frame })))))))))

-- a state by its phase and frame
abbrev pub in_phase : Phase → Frame → State
in_phase phase frame = record { phase = phase; frame = frame }

-- one record: it is whole, then its kind's tests
unfoldable pub step_at : List ℕ → ℕ → State → Step
step_at t at s = refuse_unless (is_whole t at) Cut (rule_of (kind_at t at) t at s)

-- a refusal with its fault and place
abbrev pub refused_at : Fault → ℕ → Reading
refused_at fault place = Err (record { fault = fault; place = place })

-- no byte is left: the table is accepted after CHECK; an empty table has no HEAD; else the end comes before CHECK
unfoldable pub ending_of : Phase → Frame → ℕ → Reading
ending_of Start f end = refused_at NoHead 0
ending_of Rows f end = refused_at OutOfSequence end
ending_of Ordered f end = refused_at OutOfSequence end
ending_of Checked f end = Ok f

-- what a record's step makes of the reading: it goes on, or stops at the record's first byte
abbrev pub follow : Step → ℕ → (State → Reading) → Reading
follow (Ok s) at rest = rest s
follow (Err fault) at rest = refused_at fault at

-- the records from a place on, at most `fuel` of them: a record has at least four bytes, so the table's length is enough
unfoldable pub scan : ℕ → List ℕ → ℕ → State → Reading
scan zero t at s = ending_of s.phase s.frame (length t)
scan (suc fuel) t at s =
    cond (nat_lt at (length t))
    (follow (step_at t at s) at (λ next. scan fuel t (after t at) next))
    (ending_of s.phase s.frame (length t))

-- nothing is known before the first record
abbrev pub beginning : State
beginning = in_phase Start (record { variables = 0; requests = 0; rows = 0; order = 0 })

-- the reading of a table
unfoldable pub reading : List ℕ → Reading
reading t = cond (nat_lt most_bytes (length t)) (refused_at TooLong 0) (scan (length t) t 0 beginning)

-- the number that a reading returns: 0 for an accepted table
unfoldable pub number_of_reading : Reading → ℕ
number_of_reading (Ok f) = 0
number_of_reading (Err r) = number_of r.fault

-- the place that a reading returns: 0 for an accepted table
unfoldable pub place_of_reading : Reading → ℕ
place_of_reading (Ok f) = 0
place_of_reading (Err r) = r.place
