-- What an accepted table keeps: the scan is taken apart record by record, from the end of the table to its start.
use Rattle.std.proofs.Common.{◌≡◌, ℕ, zero, suc, ◌+◌, ◌-◌, ◌*◌, ◌<◌, ◌≤◌, Bool, true, false, ltb, leb, List, Ok, Err}
use Rattle.std.proofs.Common.{length, sym, refl, ◌∙◌, subst, arith, ltb-false, ltb-true, eqb-true, leb-true}
use Rattle.table.specs.declared.record.Phase.TheVariants.{Start, Rows, Ordered, Checked}
use Rattle.table.specs.declared.record.Frame.{Frame}
use Rattle.table.specs.declared.record.State.{State}
use Rattle.table.specs.Words.{u16_at}
use Rattle.table.specs.Lists.{all_different}
use Rattle.table.specs.Kinds.{Kind, Head, Clause, Linear, Order, Check, Unknown, is_head, is_row}
use Rattle.table.specs.Rows.{kind_at, length_at, after, row_of, order_at}
use Rattle.table.specs.Limits.{most_bytes, most_variables, most_requests, most_rows, order_in_range}
use Rattle.table.specs.Tests.{head_first, in_sequence, room_for_row, length_right, in_range, no_repeat, adds_to_zero, next_phase, next_frame}
use Rattle.table.specs.Refusals.{Fault}
use Rattle.table.specs.Reading.{Step, Reading, in_phase, step_at, ending_of, scan, beginning, reading, refused_at}
use Rattle.table.specs.Kept.{first_row, RowKept, RowsKept, Kept}
use Rattle.table.proofs.Steps.{Passed, next_passed, scan_ends, scan_goes_on, scan_stops, both}

-- a refusal is no acceptance
no_refusal : {X : Type 0} {fault : Fault} {place : ℕ} {f : Frame} → refused_at fault place ≡ Ok f → X
no_refusal e = absurd cc

-- an accepted table has one frame
pub same_frame : {f g : Frame} → ◌≡◌ {A = Reading} (Ok f) (Ok g) → f ≡ g
same_frame e = cc

-- true is not false
pub clash : {X : Type 0} → false ≡ true → X
clash e = absurd cc

-- the record at hand was passed, and the rest of the scan accepts
pub record Goes (n : ℕ) (t : List ℕ) (at : ℕ) (s : State) (f : Frame) : Type 0 where
  pub next : State
  pub passed : Passed t at s next
  pub rest : scan (n - 1) t (after t at) next ≡ Ok f

pub goes :
    (n : ℕ) (t : List ℕ) (at : ℕ) (s : State) (f : Frame) →
    at < length t →
    length t ≤ n + at →
    scan n t at s ≡ Ok f →
    Goes n t at s f
goes n t at s f h g e = by (step_at t at s) refl
  where
    by : (told : Step) → step_at t at s ≡ told → Goes n t at s f
    by (Ok next) q =
        record { next = next; passed = next_passed t at s next q; rest = scan_goes_on n t at s h g next (after t at) refl q ∙ e }
    by (Err fault) q = no_refusal (scan_stops n t at s h g fault q ∙ e)

-- after CHECK the table ends, and the frame is the one so far
module _ (t : List ℕ) (f : Frame) where
  after_check : (n at : ℕ) (fr : Frame) → at ≤ length t → length t ≤ n + at → scan n t at (in_phase Checked fr) ≡ Ok f → (at ≡ length t) × (fr ≡ f)
  unfolding ending_of in_sequence
  after_check n at fr h g e = by (ltb at (length t)) refl
    where
      by : (more : Bool) → ltb at (length t) ≡ more → (at ≡ length t) × (fr ≡ f)
      by true q = clash (goes n t at (in_phase Checked fr) f (ltb-true at (length t) q) g e).passed.is_in_sequence
      by false q =
          let p = ltb-false at (length t) q in (omega arith, same_frame (sym (scan_ends n t at (in_phase Checked fr) p) ∙ e))

-- what stands from ORDER on in a table that is accepted with the frame f
pub record Ends (t : List ℕ) (f : Frame) : Type 0 where
  pub check : (kind_at t (after t f.order) ≡ Check) × (length_at t (after t f.order) ≡ 2)
  pub adds : adds_to_zero Check t (after t f.order) ≡ true
  pub end : after t f.order + 6 ≡ length t

-- only CHECK follows ORDER
only_check : (kind : Kind) → in_sequence Ordered kind ≡ true → kind ≡ Check
unfolding in_sequence
only_check Head e = clash e
only_check Clause e = clash e
only_check Linear e = clash e
only_check Order e = clash e
only_check Check e = refl
only_check Unknown e = clash e

-- the state after a record, by its kind
state_after :
    {t : List ℕ} {at : ℕ} {s next : State} (kind : Kind) →
    kind_at t at ≡ kind →
    Passed t at s next →
    next ≡ in_phase (next_phase kind) (next_frame kind t at s.frame)
state_after kind k p = rw (← k) (sym p.state)

module _ (t : List ℕ) (f : Frame) where
  check_passed :
      (n at : ℕ) (fr : Frame) → length t ≤ n + at → at ≡ after t fr.order → Goes n t at (in_phase Ordered fr) f → Ends t f × (fr ≡ f)
  unfolding next_phase next_frame length_right
  check_passed n at fr g o p =
      let k = only_check (kind_at t at) p.passed.is_in_sequence in
      let l = eqb-true (length_at t at) 2 (rw k at p.passed.right) in
      let whole = p.passed.whole in
      let q = after_check t f (n - 1) (after t at) fr whole (omega arith) (rw (state_after Check k p.passed) at p.rest) in
      let end : at + 6 ≡ length t = omega (arith, l, q.0) in
      let ends : Ends t fr = record { check = rw (← o) (k, l); adds = rw (← o) (rw k at p.passed.adds); end = rw (← o) end } in
      (subst (λ (x : Frame). Ends t x) q.1 ends, q.1)

  after_order :
      (n at : ℕ) (fr : Frame) →
      at ≤ length t →
      length t ≤ n + at →
      at ≡ after t fr.order →
      scan n t at (in_phase Ordered fr) ≡ Ok f →
      Ends t f × (fr ≡ f)
  unfolding ending_of
  after_order n at fr h g o e = by (ltb at (length t)) refl
    where
      by : (more : Bool) → ltb at (length t) ≡ more → Ends t f × (fr ≡ f)
      by true q = check_passed n at fr g o (goes n t at (in_phase Ordered fr) f (ltb-true at (length t) q) g e)
      by false q = no_refusal (sym (scan_ends n t at (in_phase Ordered fr) (ltb-false at (length t) q)) ∙ e)

-- what stands from a place among the rows on
pub record Rest (t : List ℕ) (at : ℕ) (fr f : Frame) : Type 0 where
  pub variables : f.variables ≡ fr.variables
  pub requests : f.requests ≡ fr.requests
  pub more : ℕ
  pub counted : f.rows ≡ fr.rows + more
  pub few : f.rows ≤ most_rows
  pub rows_kept : RowsKept fr.variables fr.requests t more at f.order
  pub order : (kind_at t f.order ≡ Order) × (length_at t f.order ≡ 2 * fr.requests)
  pub order_is_in_range : order_in_range fr.requests (order_at fr.requests t f.order) ≡ true
  pub order_different : all_different (order_at fr.requests t f.order) ≡ true
  pub ends : Ends t f

-- the frame with one row more, and with ORDER at a place
abbrev one_more : Frame → Frame
one_more fr = record { variables = fr.variables; requests = fr.requests; rows = fr.rows + 1; order = 0 }

abbrev ordered_at : Frame → ℕ → Frame
ordered_at fr at = record { variables = fr.variables; requests = fr.requests; rows = fr.rows; order = at }

-- what the record at hand among the rows is: a row, or ORDER
data AmongRows (t : List ℕ) (at : ℕ) (fr : Frame) (next : State) : Type 0 where
  a_row : RowKept fr.variables fr.requests t at → fr.rows < most_rows → next ≡ in_phase Rows (one_more fr) → AmongRows t at fr next
  the_order :
      (kind_at t at ≡ Order) × (length_at t at ≡ 2 * fr.requests) →
      order_in_range fr.requests (order_at fr.requests t at) ≡ true →
      all_different (order_at fr.requests t at) ≡ true →
      next ≡ in_phase Ordered (ordered_at fr at) →
      AmongRows t at fr next

among : (kind : Kind) {t : List ℕ} {at : ℕ} {fr : Frame} {next : State} → kind_at t at ≡ kind → Passed t at (in_phase Rows fr) next → AmongRows t at fr next
unfolding is_head head_first in_sequence room_for_row length_right in_range no_repeat next_phase next_frame is_row row_of
among Head k p = clash (rw k at p.head_is_first)
among Clause {fr = fr} k p =
    a_row (record { whole = p.whole; row = rw k; right = p.right; is_in_range = rw k (rw k at p.is_in_range) })
    (ltb-true fr.rows 512 (rw k at p.room))
    (state_after Clause k p)
among Linear {fr = fr} k p =
    a_row (record { whole = p.whole; row = rw k; right = p.right; is_in_range = rw k (rw k at p.is_in_range) })
    (ltb-true fr.rows 512 (rw k at p.room))
    (state_after Linear k p)
among Order {t} {at} {fr} k p =
    the_order (k, eqb-true (length_at t at) (2 * fr.requests) (rw k at p.right))
    (rw k at p.is_in_range)
    (rw k at p.repeats_none)
    (state_after Order k p)
among Check k p = clash (rw k at p.is_in_sequence)
among Unknown k p = clash (rw k at p.is_in_sequence)

module _ (t : List ℕ) (f : Frame) where
  abbrev RestFrom : ℕ → Type 0
  RestFrom n =
      (at : ℕ) (fr : Frame) →
      at ≤ length t →
      length t ≤ n + at →
      fr.rows ≤ most_rows →
      scan n t at (in_phase Rows fr) ≡ Ok f →
      Rest t at fr f

  -- a row, and then the rest
  after_row : (at : ℕ) (fr : Frame) → RowKept fr.variables fr.requests t at → Rest t (after t at) (one_more fr) f → Rest t at fr f
  unfolding RowsKept
  after_row at fr kept r =
      record {
        variables = r.variables;
        requests = r.requests;
        more = suc r.more;
        counted = omega (arith, r.counted);
        few = r.few;
        rows_kept = (kept, r.rows_kept);
        order = r.order;
        order_is_in_range = r.order_is_in_range;
        order_different = r.order_different;
        ends = r.ends;
      }

  -- ORDER, and then the end
  at_order :
      (at : ℕ) (fr : Frame) →
      fr.rows ≤ most_rows →
      (kind_at t at ≡ Order) × (length_at t at ≡ 2 * fr.requests) →
      order_in_range fr.requests (order_at fr.requests t at) ≡ true →
      all_different (order_at fr.requests t at) ≡ true →
      Ends t f × (ordered_at fr at ≡ f) →
      Rest t at fr f
  unfolding RowsKept
  at_order at fr few order is_in_range different (ends, e) =
      subst (λ (x : Frame). Ends t x → Rest t at fr x) e
      (λ ends.
      record {
        variables = refl;
        requests = refl;
        more = 0;
        counted = omega arith;
        few = few;
        rows_kept = refl;
        order = order;
        order_is_in_range = is_in_range;
        order_different = different;
        ends = ends;
      })
      ends

  rest_step : (n : ℕ) → RestFrom n → RestFrom (suc n)
  unfolding ending_of
  rest_step n rest at fr h g few e = by (ltb at (length t)) refl
    where
      same_fuel : suc n - 1 ≡ n
      same_fuel = omega arith

      told : (p : Goes (suc n) t at (in_phase Rows fr) f) → AmongRows t at fr p.next → Rest t at fr f
      told p (a_row kept room state) =
          after_row at fr kept
          (rest (after t at) (one_more fr) kept.whole (omega arith) (omega arith) (rw (state, same_fuel) at p.rest))
      told p (the_order order is_in_range different state) =
          at_order at fr few order is_in_range different
          (after_order t f n (after t at) (ordered_at fr at) p.passed.whole (omega arith) refl (rw (state, same_fuel) at p.rest))

      by : (more : Bool) → ltb at (length t) ≡ more → Rest t at fr f
      by true q =
          let p = goes (suc n) t at (in_phase Rows fr) f (ltb-true at (length t) q) g e in
          told p (among (kind_at t at) refl p.passed)
      by false q = no_refusal (sym (scan_ends (suc n) t at (in_phase Rows fr) (ltb-false at (length t) q)) ∙ e)

  rest_from : (n : ℕ) → RestFrom n
  unfolding ending_of
  rest_from zero at fr h g few e = no_refusal (sym (scan_ends zero t at (in_phase Rows fr) (omega arith)) ∙ e)
  rest_from (suc n) at fr h g few e = rest_step n (rest_from n) at fr h g few e

-- only HEAD comes first
only_head : (kind : Kind) → head_first Start kind ≡ true → kind ≡ Head
unfolding head_first is_head
only_head Head e = refl
only_head Clause e = clash e
only_head Linear e = clash e
only_head Order e = clash e
only_head Check e = clash e
only_head Unknown e = clash e

module _ (t : List ℕ) (f : Frame) (short : length t ≤ most_bytes) where
  -- the frame after HEAD
  abbrev headed : Frame
  headed = record { variables = u16_at t 4; requests = u16_at t 6; rows = 0; order = 0 }

  kept_by :
      (kind_at t 0 ≡ Head) × (length_at t 0 ≡ 4) →
      (u16_at t 4 ≤ most_variables) × (u16_at t 6 ≤ most_requests) →
      Rest t first_row headed f →
      Kept t f
  kept_by head small r =
      record {
        short = short;
        head = head;
        variables = r.variables;
        requests = r.requests;
        few_variables = omega (arith, r.variables, small.0);
        few_requests = omega (arith, r.requests, small.1);
        few_rows = r.few;
        rows_kept = rw (r.variables, r.requests, omega_rows) r.rows_kept;
        order = rw r.requests r.order;
        order_is_in_range = rw r.requests r.order_is_in_range;
        order_different = rw r.requests r.order_different;
        check = r.ends.check;
        adds = r.ends.adds;
        end = omega (arith, r.ends.end, r.order.1, r.requests);
      }
    where
      omega_rows : f.rows ≡ r.more
      omega_rows = omega (arith, r.counted)

  head_passed : Goes (length t) t 0 beginning f → Kept t f
  unfolding next_phase next_frame length_right in_range
  head_passed p =
      let k = only_head (kind_at t 0) p.passed.head_is_first in
      let l = eqb-true (length_at t 0) 4 (rw k at p.passed.right) in
      let small = both (leb (u16_at t 4) 20) (leb (u16_at t 6) 64) (rw k at p.passed.is_in_range) in
      let at8 : after t 0 ≡ 8 = omega (arith, l) in
      let whole = p.passed.whole in
      kept_by (k, l) (leb-true (u16_at t 4) 20 small.0, leb-true (u16_at t 6) 64 small.1)
      (rest_from t f (length t - 1) 8 headed (omega arith) (omega arith) (omega arith) (rw (state_after Head k p.passed, at8) at p.rest))

-- an accepted table is not too long, and its scan accepts it
pub scan_of_accepted : (t : List ℕ) (f : Frame) → reading t ≡ Ok f → (length t ≤ most_bytes) × (scan (length t) t 0 beginning ≡ Ok f)
unfolding reading
scan_of_accepted t f e = long (ltb most_bytes (length t)) refl
  where
    long : (over : Bool) → ltb most_bytes (length t) ≡ over → (length t ≤ most_bytes) × (scan (length t) t 0 beginning ≡ Ok f)
    long true q = no_refusal (rw q at e)
    long false q = (ltb-false most_bytes (length t) q, rw q at e)

-- an accepted table keeps its frame: HEAD, rows, ORDER and CHECK, whole and within their limits
pub accepted_keeps : (t : List ℕ) (f : Frame) → reading t ≡ Ok f → Kept t f
unfolding ending_of
accepted_keeps t f e = some_byte (ltb 0 (length t)) refl
  where
    scanned : scan (length t) t 0 beginning ≡ Ok f
    scanned = (scan_of_accepted t f e).1

    some_byte : (more : Bool) → ltb 0 (length t) ≡ more → Kept t f
    some_byte true q =
        head_passed t f (scan_of_accepted t f e).0
        (goes (length t) t 0 beginning f (ltb-true 0 (length t) q) (omega arith) scanned)
    some_byte false q = no_refusal (sym (scan_ends (length t) t 0 beginning (ltb-false 0 (length t) q)) ∙ scanned)
