-- The rule of each kind of record where the kind may stand: of the chain of tests, what is left for it to ask, and the state after it.
use Rattle.std.proofs.Common.{◌≡◌, ℕ, ◌+◌, ◌*◌, ◌/◌, ◌%◌, ◌^◌, true, ◌&&◌, List, ◌==◌, leb, ltb, Ok, refl}
use Rattle.table.specs.declared.record.Phase.TheVariants.{Start, Rows, Ordered, Checked}
use Rattle.table.specs.declared.record.Frame.{Frame}
use Rattle.table.specs.Words.{u16_at, words, total}
use Rattle.table.specs.Lists.{all_different}
use Rattle.table.specs.Kinds.{Kind, Head, Clause, Linear, Order, Check, Unknown, is_known, is_head, is_row}
use Rattle.table.specs.Rows.{length_at, row_of, order_at}
use Rattle.table.specs.Limits.{most_variables, most_requests, most_rows, row_in_range, order_in_range}
use Rattle.table.specs.Refusals.{WrongLength, OutOfRange, NamedTwice, NotZero, TooManyRows}
use Rattle.table.specs.Tests.{head_first, in_sequence, room_for_row, length_right, in_range, no_repeat, adds_to_zero, next_phase, next_frame}
use Rattle.table.specs.Reading.{refuse_unless, rule_of, in_phase}

module _ (t : List ℕ) (at : ℕ) (f : Frame) where
  -- HEAD as the first record: its length, then V and N
  pub head_rule :
      rule_of Head t at (in_phase Start f)
      ≡ refuse_unless (length_at t at == 4) WrongLength
      (refuse_unless (leb (u16_at t (at + 4)) most_variables && leb (u16_at t (at + 6)) most_requests) OutOfRange
      (Ok (in_phase Rows (record { variables = u16_at t (at + 4); requests = u16_at t (at + 6); rows = 0; order = 0 }))))
  unfolding rule_of is_known is_head head_first in_sequence room_for_row length_right in_range no_repeat adds_to_zero next_phase next_frame
  head_rule = refl

  -- a row among the rows: whether there is room for it, its length, then what it names
  pub row_rule :
      (kind : Kind) → is_row kind ≡ true →
      rule_of kind t at (in_phase Rows f)
      ≡ refuse_unless (ltb f.rows most_rows) TooManyRows
      (refuse_unless (length_right kind f.requests (length_at t at)) WrongLength
      (refuse_unless (row_in_range f.variables f.requests (row_of kind t at)) OutOfRange
      (Ok (in_phase Rows (record { variables = f.variables; requests = f.requests; rows = f.rows + 1; order = 0 })))))
  unfolding rule_of is_known is_head is_row head_first in_sequence room_for_row in_range no_repeat adds_to_zero next_phase next_frame row_of
  row_rule Head e = absurd cc
  row_rule Clause e = refl
  row_rule Linear e = refl
  row_rule Order e = absurd cc
  row_rule Check e = absurd cc
  row_rule Unknown e = absurd cc

  -- ORDER after the rows: its length, then its numbers, then whether one is named twice
  pub order_rule :
      rule_of Order t at (in_phase Rows f)
      ≡ refuse_unless (length_at t at == 2 * f.requests) WrongLength
      (refuse_unless (order_in_range f.requests (order_at f.requests t at)) OutOfRange
      (refuse_unless (all_different (order_at f.requests t at)) NamedTwice
      (Ok (in_phase Ordered (record { variables = f.variables; requests = f.requests; rows = f.rows; order = at })))))
  unfolding rule_of is_known is_head head_first in_sequence room_for_row length_right in_range no_repeat adds_to_zero next_phase next_frame
  order_rule = refl

  -- CHECK after ORDER: its length, then the sum
  pub check_rule :
      rule_of Check t at (in_phase Ordered f)
      ≡ refuse_unless (length_at t at == 2) WrongLength
      (refuse_unless (total (words ((at + 6) / 2) t 0) % 2 ^ 16 == 0) NotZero (Ok (in_phase Checked f)))
  unfolding rule_of is_known is_head head_first in_sequence room_for_row length_right in_range no_repeat adds_to_zero next_phase next_frame
  check_rule = refl
