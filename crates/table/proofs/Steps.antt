-- One step of the reading and one turn of its scan: what the definitions of specs/Reading.antt say where a record has been tested.
use Rattle.std.proofs.Common.{◌≡◌, ℕ, zero, suc, ◌+◌, ◌-◌, ◌<◌, ◌≤◌, Bool, true, false, ◌&&◌, leb}
use Rattle.std.proofs.Common.{List, length, refl, arith, le-ltb, lt-ltb, le-leb, leb-true, Ok, Err}
use Rattle.std.proofs.lemmas.Bool.{and_parts}
use Rattle.table.specs.declared.record.Phase.{Phase}
use Rattle.table.specs.declared.record.Frame.{Frame}
use Rattle.table.specs.declared.record.State.{State}
use Rattle.table.specs.Words.{u16_at}
use Rattle.table.specs.Kinds.{Kind, Head, Clause, Linear, Order, Check, Unknown, is_known}
use Rattle.table.specs.Limits.{most_variables, most_requests}
use Rattle.table.specs.Rows.{kind_at, length_at, after}
use Rattle.table.specs.Refusals.{Fault, Cut, NoHead, UnknownKind, WrongLength, OutOfRange, OutOfSequence, NamedTwice, NotZero, TooManyRows}
use Rattle.table.specs.Tests.{is_whole, head_first, in_sequence, room_for_row, length_right, in_range, no_repeat, adds_to_zero, next_phase, next_frame}
use Rattle.table.specs.Reading.{Step, refuse_unless, rule_of, in_phase, step_at, refused_at, ending_of, follow, scan}

module _ (t : List ℕ) (at : ℕ) (s : State) where
  -- a whole record: its kind's rule in its phase decides
  pub whole_step :
      (phase : Phase) →
      s.phase ≡ phase →
      after t at ≤ length t →
      (told : Step) →
      told ≡ rule_of (kind_at t at) t at (in_phase phase s.frame) →
      told ≡ step_at t at s
  unfolding step_at is_whole rule_of
  whole_step phase e h told f = rw (le-leb (at + 4) (length t) (omega arith), le-leb (after t at) (length t) h, e) f

-- a test of the chain that led to a next state was passed
on : (test : Bool) (fault : Fault) (rest : Step) {next : State} → refuse_unless test fault rest ≡ Ok next → (test ≡ true) × (rest ≡ Ok next)
on true fault rest e = (refl, e)
on false fault rest e = absurd cc

-- both of two tests were passed
pub both : (a b : Bool) → (a && b) ≡ true → (a ≡ true) × (b ≡ true)
both a b e = and_parts a b e

-- what is known of a record that the reading went past: it passed every test, and this is the state after it
pub record Passed (t : List ℕ) (at : ℕ) (s next : State) : Type 0 where
  pub whole : after t at ≤ length t
  pub known : is_known (kind_at t at) ≡ true
  pub head_is_first : head_first s.phase (kind_at t at) ≡ true
  pub is_in_sequence : in_sequence s.phase (kind_at t at) ≡ true
  pub room : room_for_row (kind_at t at) s.frame.rows ≡ true
  pub right : length_right (kind_at t at) s.frame.requests (length_at t at) ≡ true
  pub is_in_range : in_range (kind_at t at) t at s.frame ≡ true
  pub repeats_none : no_repeat (kind_at t at) t at s.frame ≡ true
  pub adds : adds_to_zero (kind_at t at) t at ≡ true
  pub state : in_phase (next_phase (kind_at t at)) (next_frame (kind_at t at) t at s.frame) ≡ next

same_next : {a b : State} → ◌≡◌ {A = Step} (Ok a) (Ok b) → a ≡ b
same_next e = cc

pub next_passed : (t : List ℕ) (at : ℕ) (s next : State) → step_at t at s ≡ Ok next → Passed t at s next
unfolding step_at is_whole rule_of
next_passed t at s next e =
    let h2 = on (is_whole t at) Cut _ e in
    let h4 = on (is_known (kind_at t at)) UnknownKind _ h2.1 in
    let h3 = on (head_first s.phase (kind_at t at)) NoHead _ h4.1 in
    let h7 = on (in_sequence s.phase (kind_at t at)) OutOfSequence _ h3.1 in
    let h10 = on (room_for_row (kind_at t at) s.frame.rows) TooManyRows _ h7.1 in
    let h5 = on (length_right (kind_at t at) s.frame.requests (length_at t at)) WrongLength _ h10.1 in
    let h6 = on (in_range (kind_at t at) t at s.frame) OutOfRange _ h5.1 in
    let h8 = on (no_repeat (kind_at t at) t at s.frame) NamedTwice _ h6.1 in
    let h9 = on (adds_to_zero (kind_at t at) t at) NotZero _ h8.1 in
    record {
      whole = leb-true (after t at) (length t) (both (leb (at + 4) (length t)) (leb (after t at) (length t)) h2.0).1;
      known = h4.0;
      head_is_first = h3.0;
      is_in_sequence = h7.0;
      room = h10.0;
      right = h5.0;
      is_in_range = h6.0;
      repeats_none = h8.0;
      adds = h9.0;
      state = same_next h9.1;
    }

-- no byte is left
pub scan_ends : (n : ℕ) (t : List ℕ) (at : ℕ) (s : State) → length t ≤ at → scan n t at s ≡ ending_of s.phase s.frame (length t)
unfolding scan
scan_ends zero t at s h = refl
scan_ends (suc n) t at s h = rw (le-ltb at (length t) h)

-- the record at hand does what its step says
scan_turns :
    (n : ℕ) (t : List ℕ) (at : ℕ) (s : State) →
    at < length t →
    length t ≤ n + at →
    scan n t at s ≡ follow (step_at t at s) at (λ next. scan (n - 1) t (after t at) next)
unfolding scan
scan_turns zero t at s h g = absurd (omega arith)
scan_turns (suc n) t at s h g = let e : n ≡ suc n - 1 = omega arith in rw (lt-ltb at (length t) h, ← e)

module _ (n : ℕ) (t : List ℕ) (at : ℕ) (s : State) (h : at < length t) (g : length t ≤ n + at) where
  -- it lets the reading go on
  pub scan_goes_on :
      (next : State) (later : ℕ) → later ≡ after t at → step_at t at s ≡ Ok next → scan (n - 1) t later next ≡ scan n t at s
  scan_goes_on next later f e = rw (f, scan_turns n t at s h g, e)

  -- it stops the reading
  pub scan_stops : (fault : Fault) → step_at t at s ≡ Err fault → refused_at fault at ≡ scan n t at s
  scan_stops fault e = rw (scan_turns n t at s h g, e)

-- a frame's numbers of variables and requests are within their limits
pub record Small (f : Frame) : Type 0 where
  pub few_variables : f.variables ≤ most_variables
  pub few_requests : f.requests ≤ most_requests

small_by : (kind : Kind) (t : List ℕ) (at : ℕ) (f : Frame) → Small f → in_range kind t at f ≡ true → Small (next_frame kind t at f)
unfolding in_range next_frame
small_by Head t at f small e =
    let h = both _ _ e in
    record { few_variables = leb-true (u16_at t (at + 4)) 20 h.0; few_requests = leb-true (u16_at t (at + 6)) 64 h.1 }
small_by Clause t at f small e = record { few_variables = small.few_variables; few_requests = small.few_requests }
small_by Linear t at f small e = record { few_variables = small.few_variables; few_requests = small.few_requests }
small_by Order t at f small e = record { few_variables = small.few_variables; few_requests = small.few_requests }
small_by Check t at f small e = small
small_by Unknown t at f small e = small

-- so they stay from record to record
pub small_next : (t : List ℕ) (at : ℕ) (s next : State) → Small s.frame → Passed t at s next → Small next.frame
small_next t at s next small p = rw (← p.state) (small_by (kind_at t at) t at s.frame small p.is_in_range)
