-- A table that keeps a frame is accepted with it: the other way round than proofs/Accepted.antt, so the two say that what an accepted table keeps is all
-- that the tests ask.
use Rattle.std.proofs.Common.{◌≡◌, ℕ, zero, suc, ◌+◌, ◌-◌, ◌*◌, ◌<◌, ◌≤◌, true, List, length, sym, Ok}
use Rattle.std.proofs.Common.{refl, ◌∙◌, add-zero, zero-add, arith, le-ltb, lt-ltb, eq-eqb, le-leb}
use Rattle.table.specs.declared.record.Phase.{Phase}
use Rattle.table.specs.declared.record.Phase.TheVariants.{Start, Rows, Ordered, Checked}
use Rattle.table.specs.declared.record.Frame.{Frame}
use Rattle.table.specs.Words.{u16_at}
use Rattle.table.specs.Kinds.{Kind, Head, Clause, Linear, Order, Check, Unknown, is_known, is_head, is_row}
use Rattle.table.specs.Rows.{kind_at, length_at, after, row_of}
use Rattle.table.specs.Tests.{head_first, in_sequence, room_for_row, length_right, in_range, no_repeat, adds_to_zero, next_phase, next_frame}
use Rattle.table.specs.Reading.{rule_of, in_phase, ending_of, scan, beginning, reading}
use Rattle.table.specs.Kept.{RowKept, RowsKept, Kept}
use Rattle.table.proofs.WaysOut.{passes_all}
use Rattle.table.proofs.Accepted.{clash}
use Rattle.table.proofs.Steps.{whole_step, scan_goes_on, scan_ends}

-- the tests of a record of a kind, all passed
record Passes (kind : Kind) (t : List ℕ) (at : ℕ) (phase : Phase) (f : Frame) : Type 0 where
  known : is_known kind ≡ true
  head_is_first : head_first phase kind ≡ true
  is_in_sequence : in_sequence phase kind ≡ true
  room : room_for_row kind f.rows ≡ true
  right : length_right kind f.requests (length_at t at) ≡ true
  is_in_range : in_range kind t at f ≡ true
  repeats_none : no_repeat kind t at f ≡ true
  adds : adds_to_zero kind t at ≡ true

-- the scan goes past such a record
goes_past :
    (n : ℕ) (t : List ℕ) (at : ℕ) (phase : Phase) (f : Frame) (kind : Kind) →
    length t ≤ n + at →
    after t at ≤ length t →
    kind_at t at ≡ kind →
    Passes kind t at phase f →
    scan n t at (in_phase phase f) ≡ scan (n - 1) t (after t at) (in_phase (next_phase kind) (next_frame kind t at f))
goes_past n t at phase f kind g whole k p =
    let next = in_phase (next_phase kind) (next_frame kind t at f) in
    let rule : Ok next ≡ rule_of (kind_at t at) t at (in_phase phase f) =
    rw k
    (passes_all kind t at phase f p.known p.head_is_first p.is_in_sequence p.room p.right p.is_in_range p.repeats_none p.adds)
    in
    sym
    (scan_goes_on n t at (in_phase phase f) (omega arith) g next (after t at) refl
    (sym (whole_step t at (in_phase phase f) phase refl whole (Ok next) rule)))

-- the frame after k rows
abbrev after_rows : Frame → ℕ → Frame
after_rows f k = record { variables = f.variables; requests = f.requests; rows = k; order = 0 }

module _ (t : List ℕ) (f : Frame) where
  -- a row
  past_row :
      (kind : Kind) (n at k : ℕ) →
      length t ≤ n + at →
      kind_at t at ≡ kind →
      k < 512 →
      RowKept f.variables f.requests t at →
      scan n t at (in_phase Rows (after_rows f k)) ≡ scan (n - 1) t (after t at) (in_phase Rows (after_rows f (k + 1)))
  unfolding is_known is_head is_row head_first in_sequence room_for_row in_range no_repeat adds_to_zero next_phase next_frame row_of
  past_row Head n at k g e room kept = clash (rw e at kept.row)
  past_row Clause n at k g e room kept =
      goes_past n t at Rows (after_rows f k) Clause g kept.whole e
      (record {
        known = refl;
        head_is_first = refl;
        is_in_sequence = refl;
        room = lt-ltb k 512 room;
        right = rw e at kept.right;
        is_in_range = rw e at kept.is_in_range;
        repeats_none = refl;
        adds = refl;
      })
  past_row Linear n at k g e room kept =
      goes_past n t at Rows (after_rows f k) Linear g kept.whole e
      (record {
        known = refl;
        head_is_first = refl;
        is_in_sequence = refl;
        room = lt-ltb k 512 room;
        right = rw e at kept.right;
        is_in_range = rw e at kept.is_in_range;
        repeats_none = refl;
        adds = refl;
      })
  past_row Order n at k g e room kept = clash (rw e at kept.row)
  past_row Check n at k g e room kept = clash (rw e at kept.row)
  past_row Unknown n at k g e room kept = clash (rw e at kept.row)

  -- all rows
  past_rows :
      (more n at k end : ℕ) →
      length t ≤ n + at →
      k + more ≤ 512 →
      RowsKept f.variables f.requests t more at end →
      (fuel : ℕ) × (length t ≤ fuel + end)
      × (scan n t at (in_phase Rows (after_rows f k)) ≡ scan fuel t end (in_phase Rows (after_rows f (k + more))))
  unfolding RowsKept
  past_rows zero n at k end g few kept = (n, omega arith, rw (← kept, add-zero k))
  past_rows (suc more) n at k end g few kept =
      let whole = kept.0.whole in
      let later = past_rows more (n - 1) (after t at) (k + 1) end (omega arith) (omega arith) kept.1 in
      let same : k + 1 + more ≡ k + suc more = omega arith in
      (later.0, later.1, past_row (kind_at t at) n at k g refl (omega arith) kept.0 ∙ rw same at later.2)

  -- ORDER, CHECK and the end
  past_order : (n : ℕ) → length t ≤ n + f.order → Kept t f → scan n t f.order (in_phase Rows (after_rows f f.rows)) ≡ Ok f
  unfolding is_known is_head head_first in_sequence room_for_row length_right in_range no_repeat adds_to_zero next_phase next_frame ending_of
  past_order n g kept =
      let order-length = kept.order.1 in
      let check-length = kept.check.1 in
      let end = kept.end in
      goes_past n t f.order Rows (after_rows f f.rows) Order g (omega arith) kept.order.0
      (record {
        known = refl;
        head_is_first = refl;
        is_in_sequence = refl;
        room = refl;
        right = eq-eqb (length_at t f.order) (2 * f.requests) order-length;
        is_in_range = kept.order_is_in_range;
        repeats_none = kept.order_different;
        adds = refl;
      })
      ∙ goes_past (n - 1) t (after t f.order) Ordered f Check (omega arith) (omega arith) kept.check.0
      (record {
        known = refl;
        head_is_first = refl;
        is_in_sequence = refl;
        room = refl;
        right = eq-eqb (length_at t (after t f.order)) 2 check-length;
        is_in_range = refl;
        repeats_none = refl;
        adds = kept.adds;
      })
      ∙ scan_ends (n - 1 - 1) t (after t (after t f.order)) (in_phase Checked f) (omega arith)

  -- HEAD, then all of it
  scanned : Kept t f → scan (length t) t 0 beginning ≡ Ok f
  unfolding is_known is_head head_first in_sequence room_for_row length_right in_range no_repeat adds_to_zero next_phase next_frame
  scanned kept =
      let head_length = kept.head.1 in
      let end = kept.end in
      let v = kept.variables in
      let r = kept.requests in
      let few-v = kept.few_variables in
      let few-r = kept.few_requests in
      let at8 : after t 0 ≡ 8 = omega arith in
      let rows = past_rows f.rows (length t - 1) 8 0 f.order (omega arith) (omega (arith, kept.few_rows)) kept.rows_kept in
      let rest : scan (length t - 1) t 8 (in_phase Rows (after_rows f 0)) ≡ Ok f = rw zero-add at rows.2 ∙ past_order rows.0 rows.1 kept in
      goes_past (length t) t 0 Start beginning.frame Head (omega arith) (omega arith) kept.head.0
      (record {
        known = refl;
        head_is_first = refl;
        is_in_sequence = refl;
        room = refl;
        right = eq-eqb (length_at t 0) 4 head_length;
        is_in_range = rw (le-leb (u16_at t 4) 20 (omega arith), le-leb (u16_at t 6) 64 (omega arith));
        repeats_none = refl;
        adds = refl;
      })
      ∙ rw (at8, ← v, ← r) rest

-- what keeps a frame is accepted with it
pub keeps_accepted : (t : List ℕ) (f : Frame) → Kept t f → reading t ≡ Ok f
unfolding reading
keeps_accepted t f kept = rw (le-ltb 32768 (length t) kept.short) (scanned t f kept)
