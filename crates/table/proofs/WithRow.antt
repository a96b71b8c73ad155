-- One row more at the end of a model: what it does to the limits, the bytes, the length and the sum of words.
use Rattle.std.proofs.Common.{◌≡◌, ◌+◌, ◌<◌, [], ◌∷◌, ◌++◌, length, ap, ◌∙◌, append_assoc, arith, length-append}
use Rattle.table.specs.Rows.{Row}
use Rattle.table.specs.Model.{Model, with_row, Each, RowWithin, WithinLimits}
use Rattle.table.specs.Encoding.{encode_row, encode_rows, encode_head, encode_order, before_check, sum_of_words, encode}
use Rattle.table.proofs.Limited.{each_append}
use Rattle.table.proofs.Sizes.{length-encode, row_appended}
use Rattle.table.proofs.CheckWord.{sum_before_check, sum_row_appended}

module _ (m : Model) (r : Row) where
  -- the model stays within the limits
  pub with_row_within : WithinLimits m → length m.rows < 512 → RowWithin m.variables m.requests r → WithinLimits (with_row m r)
  unfolding with_row Each
  with_row_within within room row =
      record {
        few_variables = within.few_variables;
        few_requests = within.few_requests;
        few_rows = simp length-append (omega arith);
        rows_within = each_append (RowWithin m.variables m.requests) m.rows (r ∷ []) within.rows_within (row, tt);
        order_whole = within.order_whole;
        order_within = within.order_within;
        order_different = within.order_different;
      }

  -- the row's bytes stand after those of the other rows
  pub with_row_bytes :
      before_check (with_row m r) ≡ encode_head m.variables m.requests ++ encode_rows m.rows ++ encode_row r ++ encode_order m.order
  unfolding with_row before_check
  with_row_bytes = rw (row_appended m.rows r) (simp append_assoc)

  -- the table grows by the row's bytes
  pub with_row_length : length (encode (with_row m r)) ≡ length (encode m) + length (encode_row r)
  unfolding with_row
  with_row_length =
      let before = length-encode m in
      let after = length-encode (with_row m r) in
      let rows = ap length (row_appended m.rows r) ∙ length-append (encode_rows m.rows) (encode_row r) in
      omega arith

  -- and the sum for CHECK by the row's words
  pub with_row_sum : sum_of_words (before_check (with_row m r)) ≡ sum_of_words (before_check m) + sum_of_words (encode_row r)
  unfolding with_row
  with_row_sum =
      let before = sum_before_check m in
      let after = sum_before_check (with_row m r) in
      let rows = sum_row_appended m.rows r in
      omega arith
