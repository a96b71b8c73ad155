-- An accepted table of bytes is the encoding of what it says, and what it says is within the limits.
use Rattle.std.proofs.Common.{◌≡◌, ℕ, ◌+◌, ◌/◌, ◌%◌, ◌^◌, List, ◌++◌, length, drop, sym, refl}
use Rattle.std.proofs.Common.{ap, ◌∙◌, append_assoc, append-nil, arith, length-append, eqb-true}
use Rattle.std.proofs.Math.Seq.{drop-length}
use Rattle.table.specs.declared.record.Frame.{Frame}
use Rattle.table.specs.Words.{u16_at, words, total}
use Rattle.table.specs.Kinds.{Head, Order, Check, is_known}
use Rattle.table.specs.Rows.{after}
use Rattle.table.specs.Tests.{adds_to_zero}
use Rattle.table.specs.Kept.{Kept, rows_of, order_of}
use Rattle.table.specs.Model.{WithinLimits}
use Rattle.table.specs.Encoding.{IsBytes, u16, record_of, encode_numbers, encode_rows, encode_head, encode_order}
use Rattle.table.specs.Encoding.{before_check, sum_of_words, check_word, encode_check, sealed, encode, model_of}
use Rattle.table.proofs.Limited.{order_passed, different_passed}
use Rattle.table.proofs.Sizes.{length_numbers, before_check_even}
use Rattle.table.proofs.CheckWord.{sum_of_all_words, sum_with_check, check_only}
use Rattle.table.proofs.NumbersStand.{u16_small, u16_stands, numbers_stand}
use Rattle.table.proofs.RecordsStand.{kind_number, length-words, record_stands, rows_stand}

module _ (t : List ℕ) (f : Frame) (bytes : IsBytes t) (kept : Kept t f) where
  -- the place of CHECK
  check_place : ℕ
  check_place = after t f.order

  -- the word that CHECK has
  word : ℕ
  word = u16_at t (check_place + 4)

  at_check : check_place + 6 ≡ length t
  unfolding check_place
  at_check = omega (arith, kept.order.1, kept.end)

  head_stands : t ≡ encode_head f.variables f.requests ++ drop 8 t
  unfolding encode_head u16 is_known
  head_stands =
      let end = kept.end in
      let l = kept.head.1 in
      let first = u16_stands t bytes 4 6 (omega arith) (omega arith) in
      let second = u16_stands t bytes 6 8 (omega arith) (omega arith) in
      rw (kept.variables, kept.requests)
      (record_stands t bytes 0 1 8 (u16 (u16_at t 4) ++ u16 (u16_at t 6))
      (kind_number (u16_at t 2) Head refl kept.head.0) (omega arith) (omega arith) (omega arith)
      (first ∙ ap (λ (xs : List ℕ). u16 (u16_at t 4) ++ xs) second))

  order_stands : drop f.order t ≡ encode_order (order_of t f) ++ drop check_place t
  unfolding encode_order is_known check_place
  order_stands =
      let end = kept.end in
      let l = kept.order.1 in
      let read = length-words f.requests t (f.order + 4) in
      let size = length_numbers (order_of t f) in
      record_stands t bytes f.order 4 check_place (encode_numbers (order_of t f))
      (kind_number (u16_at t (f.order + 2)) Order refl kept.order.0) (omega arith) (omega arith) (omega arith)
      (numbers_stand t bytes f.requests (f.order + 4) check_place (omega arith) (omega arith))

  check_stands : drop check_place t ≡ record_of 5 (u16 word)
  unfolding is_known u16 check_place word
  check_stands =
      let end = at_check in
      let l = kept.check.1 in
      record_stands t bytes check_place 5 (length t) (u16 word)
      (kind_number (u16_at t (check_place + 2)) Check refl kept.check.0) l (omega arith) (omega arith)
      (u16_stands t bytes (check_place + 4) (length t) (omega arith) (omega arith))
      ∙ rw (drop-length t) (append-nil (record_of 5 (u16 word)))

  -- the table is its records and CHECK with some word
  records_stand : t ≡ before_check (model_of t f) ++ record_of 5 (u16 word)
  unfolding before_check model_of
  records_stand =
      let rs = rows_stand t bytes f.variables f.requests f.rows 8 f.order kept.rows_kept in
      head_stands
      ∙ ap (λ (xs : List ℕ). encode_head f.variables f.requests ++ xs)
      (rs.0 ∙ ap (λ (xs : List ℕ). encode_rows (rows_of t f) ++ xs) (order_stands ∙ ap (λ (xs : List ℕ). encode_order (order_of t f) ++ xs) check_stands))
      ∙ simp append_assoc

  -- and that word is the one that makes the sum zero
  word_is : word ≡ check_word (sum_of_words (before_check (model_of t f)) + 2 + 5)
  unfolding adds_to_zero check_place word u16 record_of
  word_is =
      let before = before_check (model_of t f) in
      let even = before_check_even (model_of t f) in
      let size : length t ≡ length before + 6 = ap length records_stand ∙ length-append before (record_of 5 (u16 word)) in
      let all : (check_place + 6) / 2 ≡ length t / 2 = ap (λ (n : ℕ). n / 2) at_check in
      let zero-sum = eqb-true (total (words ((check_place + 6) / 2) t 0) % 2 ^ 16) 0 kept.adds in
      let sum : total (words ((check_place + 6) / 2) t 0) ≡ sum_of_words before + 7 + word =
      rw all (sum_of_all_words t (omega arith)) ∙ ap sum_of_words records_stand ∙ sum_with_check before word even
      in
      check_only (sum_of_words before + 2 + 5) word (u16_small t bytes (check_place + 4)) (omega arith)

  -- the table is the encoding of what it says
  pub kept_encodes : encode (model_of t f) ≡ t
  unfolding encode sealed encode_check
  kept_encodes = sym (records_stand ∙ ap (λ (w : ℕ). before_check (model_of t f) ++ record_of 5 (u16 w)) word_is)

  -- and that is within the limits
  pub kept_within : WithinLimits (model_of t f)
  unfolding model_of
  kept_within =
      let rs = rows_stand t bytes f.variables f.requests f.rows 8 f.order kept.rows_kept in
      record {
        few_variables = kept.few_variables;
        few_requests = kept.few_requests;
        few_rows = omega (arith, rs.2, kept.few_rows);
        rows_within = rs.1;
        order_whole = length-words f.requests t (f.order + 4);
        order_within = order_passed f.requests (order_of t f) kept.order_is_in_range;
        order_different = different_passed (order_of t f) kept.order_different;
      }
