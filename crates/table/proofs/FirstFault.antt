-- The first fault of closed tables and records, computed.
use Rattle.std.proofs.Common.{length, refl, lt-ltb}
use Rattle.table.specs.Words.{u16_at, u32_at, i32_at, words, total}
use Rattle.table.specs.Lists.{all_different}
use Rattle.table.specs.Kinds.{kind_of, is_known, is_head}
use Rattle.table.specs.Rows.{term_at, terms, clause_at, linear_at}
use Rattle.table.specs.Limits.{within, term_in_range, row_in_range}
use Rattle.table.specs.Tests.{is_whole, head_first, in_sequence, room_for_row, length_right, in_range, no_repeat, adds_to_zero, next_phase, next_frame}
use Rattle.table.specs.Refusals.{number_of}
use Rattle.table.specs.Reading.{rule_of, step_at, ending_of, scan, reading, number_of_reading, place_of_reading}
use Rattle.table.specs.FirstFault.{FirstFaultIsTold, TooLongIsTold, LimitsAreTold, number_of_step}

pub first_fault_is_told : FirstFaultIsTold
unfolding u16_at u32_at i32_at words total all_different kind_of is_known is_head term_at terms clause_at linear_at
    within term_in_range row_in_range is_whole head_first in_sequence room_for_row length_right in_range no_repeat
    adds_to_zero next_phase next_frame rule_of step_at ending_of scan reading number_of_reading place_of_reading number_of
first_fault_is_told =
    record {
      empty = refl;
      three_bytes = refl;
      cut_before_unknown = refl;
      cut_before_head = refl;
      kind_0 = refl;
      kind_6 = refl;
      unknown_before_head = refl;
      unknown_before_sequence = refl;
      order_first = refl;
      check_first = refl;
      head_before_length = refl;
      second_head_before_length = refl;
      head_among_rows = refl;
      head_after_order = refl;
      head_after_check = refl;
      check_before_order = refl;
      row_after_order = refl;
      second_order = refl;
      end_after_head = refl;
      end_after_row = refl;
      end_after_order = refl;
      sequence_before_length = refl;
      sequence_before_range = refl;
      head_length_before_range = refl;
      clause_length_before_range = refl;
      linear_length_before_range = refl;
      order_length_before_range = refl;
      check_length_before_sum = refl;
      range_before_twice = refl;
      twice_before_sum = refl;
      sum = refl;
      sum_before_more = refl;
      bytes_after_check = refl;
      unknown_after_check = refl;
      row_after_check = refl;
      second_check = refl;
    }

pub too_long_is_told : TooLongIsTold
unfolding reading number_of_reading place_of_reading number_of
too_long_is_told t long = rw (lt-ltb 32768 (length t) long) refl

pub limits_are_told : LimitsAreTold
unfolding u16_at u32_at i32_at words total all_different kind_of is_known is_head term_at terms clause_at linear_at within
    term_in_range row_in_range is_whole head_first in_sequence room_for_row length_right in_range no_repeat adds_to_zero
    next_phase next_frame rule_of step_at ending_of scan reading number_of_step number_of number_of_reading place_of_reading
limits_are_told =
    record {
      v_20 = refl;
      v_21 = refl;
      n_64 = refl;
      n_65 = refl;
      row_512 = refl;
      row_513 = refl;
      sequence_before_513 = refl;
      row_513_before_length = refl;
      row_513_before_range = refl;
      clause_0 = refl;
      clause_2 = refl;
      clause_3 = refl;
      clause_130 = refl;
      clause_132 = refl;
      linear_0 = refl;
      linear_6 = refl;
      linear_8 = refl;
      linear_126 = refl;
      linear_132 = refl;
      clause_of_64 = refl;
      clause_of_65 = refl;
      linear_of_64 = refl;
      linear_of_65 = refl;
      literal_39 = refl;
      literal_40 = refl;
      variable_19 = refl;
      variable_20 = refl;
      weight_most = refl;
      weight_above = refl;
      weight_least = refl;
      weight_below = refl;
      bound_most = refl;
      bound_least = refl;
      order_0 = refl;
      order_3 = refl;
    }
