-- The public calls about table H, in document 01's numbers.
use Rattle.std.proofs.Common.{refl, take}
use Rattle.table.specs.Words.{u16_at, u32_at, i32_at, words, total}
use Rattle.table.specs.Lists.{all_different}
use Rattle.table.specs.declared.refusals.Fault.TheVariants.{NotZero}
use Rattle.table.specs.Refusals.{number_of}
use Rattle.table.specs.Kinds.{kind_of, is_known, is_head}
use Rattle.table.specs.Rows.{term_at, terms, clause_at, linear_at, row_of, rows}
use Rattle.table.specs.Limits.{within, term_in_range, row_in_range}
use Rattle.table.specs.Tests.{is_whole, head_first, in_sequence, room_for_row, length_right, in_range, no_repeat, adds_to_zero, next_phase, next_frame}
use Rattle.table.specs.Reading.{rule_of, step_at, ending_of, scan, reading, number_of_reading, place_of_reading}
use Rattle.table.specs.Body.{place_of_record, stretch_at, stretch_by, number_of_stretch, place_of_stretch, size_of_stretch}
use Rattle.meaning.specs.Meaning.{is_true, value_of, product, sum_of, meets, role_of, counts, respects, meets_all}
use Rattle.meaning.specs.Stands.{some_setting, stands}
use Rattle.preference.specs.Selection.{all, none}
use Rattle.preference.specs.Named.{named}
use Rattle.preference.specs.Part.{entered}
use Rattle.preference.specs.OneByOne.{one_conflict, one_relax}
use Rattle.preference.specs.Cut.{size, tree_of}
use Rattle.preference.specs.Halving.{halve_conflict, enter_conflict, halve_relax, enter_relax}
use Rattle.preference.specs.Answer.{answered}
use Rattle.explain.specs.Asking.{chosen_by, question_of}
use Rattle.explain.specs.Methods.{answer_by}
use Rattle.table.specs.Encoding.{u16, u32, record_of, encode_numbers}
use Rattle.report.specs.Report.{report_body, report_bytes}
use Rattle.promises.specs.Reports.{kind_by, room_for}
use Rattle.explain.specs.declared.answers.Method.TheVariants.{ConflictByHalving}
use Rattle.promises.specs.Selecting.{bits, above, names_above, can_stand}
use Rattle.promises.specs.Sheet.{CallsHold, damaged_h, lent_buffer, lent_start}
use Rattle.table.specs.Sheet.{table_h}
use Rattle.table.specs.Samples.{frame_h}
use Rattle.promises.proofs.Outcomes.{can_stand_refused, can_stand_answered, can_stand_too_much, report_refused, report_no_room}

pub calls_hold : CallsHold
unfolding number_of u16_at u32_at i32_at words total all_different kind_of is_known is_head term_at terms clause_at linear_at row_of rows
    within term_in_range row_in_range is_whole head_first in_sequence room_for_row length_right in_range no_repeat adds_to_zero next_phase
    next_frame rule_of step_at ending_of scan reading number_of_reading place_of_reading place_of_record stretch_at stretch_by
    number_of_stretch place_of_stretch size_of_stretch is_true value_of product sum_of meets role_of counts respects meets_all some_setting
    stands all none named entered one_conflict one_relax size tree_of halve_conflict enter_conflict halve_relax enter_relax answered chosen_by
    question_of answer_by u16 u32 record_of encode_numbers report_body report_bytes kind_by room_for bits above names_above can_stand
calls_hold =
    record {
      accepted = record { number_is = refl; place_is = refl };
      damaged = record { number_is = refl; place_is = refl };
      body = record { number_is = refl; size_is = refl; place_is = refl };
      no_record = record { number_is = refl; size_is = refl; place_is = refl };
      damaged_body = record { number_is = refl; size_is = refl; place_is = refl };
      damaged_question = can_stand_refused damaged_h 11 (record { fault = NotZero; place = 86 }) refl;
      damaged_report = report_refused ConflictByHalving damaged_h lent_buffer lent_start (record { fault = NotZero; place = 86 }) refl;
      stand = can_stand_answered table_h 11 frame_h refl refl;
      fall = can_stand_answered table_h 14 frame_h refl refl;
      fall_123 = can_stand_answered table_h 7 frame_h refl refl;
      stand_12 = can_stand_answered table_h 3 frame_h refl refl;
      stand_34 = can_stand_answered table_h 12 frame_h refl refl;
      above_N = can_stand_too_much table_h 16 frame_h refl refl;
      short = report_no_room ConflictByHalving table_h (take 21 lent_buffer) lent_start frame_h refl refl;
    }
