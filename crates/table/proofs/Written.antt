-- The table of a model within the limits keeps the model's frame, and says what the model says.
use Rattle.std.proofs.Common.{◌≡◌, ℕ, ◌+◌, ◌*◌, ◌/◌, ◌%◌, ◌^◌, ◌≤◌, true, List, [], ◌++◌, length, sym, refl, ap, append_assoc, append-nil, arith, eq-eqb}
use Rattle.table.specs.Words.{u16_at, words, total}
use Rattle.table.specs.Kinds.{Head, Order, Check, kind_of}
use Rattle.table.specs.Rows.{length_at, kind_at, after, rows, order_at}
use Rattle.table.specs.Tests.{adds_to_zero}
use Rattle.table.specs.Kept.{RowsKept, Kept}
use Rattle.table.specs.Model.{Model, WithinLimits}
use Rattle.table.specs.Encoding.{u16, encode_numbers, encode_rows, encode_head, encode_order, before_check}
use Rattle.table.specs.Encoding.{sum_of_words, check_word, encode_check, sealed, encode, frame_of, model_of}
use Rattle.table.proofs.Standing.{u16_read, past_u16, numbers_read}
use Rattle.table.proofs.Limited.{order_passes, different_passes}
use Rattle.table.proofs.Sizes.{length_numbers, length-encode, rows_even}
use Rattle.table.proofs.CheckWord.{sum_of_all_words, encode_adds}
use Rattle.table.proofs.RecordsRead.{record_read, rows_read}

module _ (m : Model) where
  -- the CHECK record of the table
  abbrev the_check : List ℕ
  the_check = encode_check (sum_of_words (before_check m))

  -- the table is its records, one after another
  records_of : encode m ≡ encode_head m.variables m.requests ++ (encode_rows m.rows ++ (encode_order m.order ++ (the_check ++ [])))
  unfolding encode sealed before_check
  records_of = simp (append_assoc, append-nil)

-- what the reading finds in the table of a model, record by record
record Found (m : Model) (t : List ℕ) : Type 0 where
  head : (kind_at t 0 ≡ Head) × (length_at t 0 ≡ 4)
  variables : u16_at t 4 ≡ m.variables
  requests : u16_at t 6 ≡ m.requests
  rows_kept : RowsKept m.variables m.requests t (length m.rows) 8 (frame_of m).order
  rows_same : rows (length m.rows) t 8 ≡ m.rows
  order : (kind_at t (frame_of m).order ≡ Order) × (length_at t (frame_of m).order ≡ 2 * m.requests)
  order_same : order_at m.requests t (frame_of m).order ≡ m.order
  check : (kind_at t (after t (frame_of m).order) ≡ Check) × (length_at t (after t (frame_of m).order) ≡ 2)
  end : (frame_of m).order + 4 + 2 * m.requests + 6 ≡ length t

found :
    (m : Model) (t : List ℕ) →
    WithinLimits m →
    t ≡ encode_head m.variables m.requests ++ (encode_rows m.rows ++ (encode_order m.order ++ (the_check m ++ []))) →
    Found m t
unfolding frame_of encode_head encode_order encode_check kind_of u16
found m t within h =
    let after_order = the_check m ++ [] in
    let after_rows = encode_order m.order ++ after_order in
    let after-head = encode_rows m.rows ++ after_rows in
    let head = record_read t 0 1 (u16 m.variables ++ u16 m.requests) after-head h in
    let h6 = past_u16 t 4 m.variables (u16 m.requests ++ after-head) 6 (omega arith) head.body_read in
    let head_length = head.length_read in
    let at8 : after t 0 ≡ 8 = omega arith in
    let end = 8 + length (encode_rows m.rows) in
    let rs = rows_read m.variables m.requests t after_rows m.rows 8 end refl within.rows_within (rw at8 at head.rest_read) in
    let order = record_read t end 4 (encode_numbers m.order) after_order rs.2 in
    let order-length = order.length_read in
    let size = length_numbers m.order in
    let whole = within.order_whole in
    let word = check_word (sum_of_words (before_check m) + 2 + 5) in
    let check = record_read t (after t end) 5 (u16 word) [] order.rest_read in
    let check-length = check.length_read in
    let fits = check.fits in
    record {
      head = (ap kind_of head.kind_read, head_length);
      variables = u16_read t 4 m.variables (u16 m.requests ++ after-head) head.body_read;
      requests = u16_read t 6 m.requests after-head h6;
      rows_kept = rs.0;
      rows_same = rs.1;
      order = (ap kind_of order.kind_read, omega arith);
      order_same = rw (← whole) (numbers_read t m.order (end + 4) after_order order.body_read);
      check = (ap kind_of check.kind_read, check-length);
      end = omega arith;
    }

module _ (m : Model) (within : WithinLimits m) where
  found_in_encode : Found m (encode m)
  found_in_encode = found m (encode m) within (records_of m)

  -- its words add to zero
  adds : adds_to_zero Check (encode m) (after (encode m) (frame_of m).order) ≡ true
  unfolding adds_to_zero
  adds =
      let p = found_in_encode in
      let size = length-encode m in
      let even = rows_even m.rows in
      let all : (after (encode m) (frame_of m).order + 6) / 2 ≡ length (encode m) / 2 = omega (arith, p.order.1, p.end) in
      eq-eqb (total (words ((after (encode m) (frame_of m).order + 6) / 2) (encode m) 0) % 2 ^ 16) 0
      (rw (all, sum_of_all_words (encode m) (omega arith)) (encode_adds m))

  -- the table keeps the frame of the model
  pub encode_keeps : length (encode m) ≤ 32768 → Kept (encode m) (frame_of m)
  unfolding frame_of
  encode_keeps short =
      let p = found_in_encode in
      record {
        short = short;
        head = p.head;
        variables = sym p.variables;
        requests = sym p.requests;
        few_variables = within.few_variables;
        few_requests = within.few_requests;
        few_rows = within.few_rows;
        rows_kept = p.rows_kept;
        order = p.order;
        order_is_in_range = rw p.order_same (order_passes m.requests m.order within.order_within);
        order_different = rw p.order_same (different_passes m.order within.order_different);
        check = p.check;
        adds = adds;
        end = p.end;
      }

  -- what the table says is the model
  pub encode-says : model_of (encode m) (frame_of m) ≡ m
  unfolding frame_of model_of
  encode-says = let p = found_in_encode in rw (p.rows_same, p.order_same)
