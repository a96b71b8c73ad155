-- The sample sheet of document 01, computed from the bytes of its tables: one list under one claim.
use Rattle.std.proofs.Common.{refl}
use Rattle.table.specs.Words.{u16_at, u32_at, i32_at, words, total}
use Rattle.table.specs.Lists.{all_different}
use Rattle.table.specs.Refusals.{number_of}
use Rattle.table.specs.Kinds.{kind_of, is_known, is_head}
use Rattle.table.specs.Rows.{term_at, terms, clause_at, linear_at, row_of, rows}
use Rattle.table.specs.Limits.{within, term_in_range, row_in_range}
use Rattle.table.specs.Tests.{is_whole, head_first, in_sequence, room_for_row, length_right, in_range, no_repeat, adds_to_zero, next_phase, next_frame}
use Rattle.table.specs.Reading.{rule_of, step_at, ending_of, scan, reading}
use Rattle.meaning.specs.Meaning.{is_true, value_of, product, sum_of, meets, role_of, counts, respects, meets_all}
use Rattle.meaning.specs.Stands.{some_setting, stands}
use Rattle.preference.specs.Selection.{all, none}
use Rattle.preference.specs.Named.{named}
use Rattle.preference.specs.Part.{entered}
use Rattle.preference.specs.OneByOne.{one_conflict, one_relax}
use Rattle.preference.specs.Cut.{size, tree_of}
use Rattle.preference.specs.Halving.{halve_conflict, enter_conflict, halve_relax, enter_relax}
use Rattle.preference.specs.Answer.{answered}
use Rattle.explain.specs.Asking.{chosen_by, question_of}
use Rattle.explain.specs.Methods.{answer_by}
use Rattle.table.specs.Encoding.{u16, u32, record_of, encode_numbers}
use Rattle.report.specs.Report.{report_body, report_bytes}
use Rattle.promises.specs.Reports.{kind_by, room_for}
use Rattle.promises.specs.Sheet.{SheetHolds, ReportsHold, line_of, answers_by}

pub sheet_holds : SheetHolds
unfolding number_of u16_at u32_at i32_at words total all_different kind_of is_known is_head term_at terms clause_at linear_at row_of rows within
    term_in_range row_in_range is_whole head_first in_sequence room_for_row length_right in_range no_repeat adds_to_zero next_phase next_frame rule_of
    step_at ending_of scan reading is_true value_of product sum_of meets role_of counts respects meets_all some_setting stands all none named entered
    one_conflict one_relax size tree_of halve_conflict enter_conflict halve_relax enter_relax answered chosen_by question_of answer_by line_of answers_by
sheet_holds = record { rows = refl; damaged = refl }

-- three reports of the sheet as bytes in a lent buffer
pub reports_hold : ReportsHold
unfolding number_of u16_at u32_at i32_at words total all_different kind_of is_known is_head term_at terms clause_at linear_at row_of
    rows within term_in_range row_in_range is_whole head_first in_sequence room_for_row length_right in_range no_repeat adds_to_zero
    next_phase next_frame rule_of step_at ending_of scan reading is_true value_of product sum_of meets role_of counts respects meets_all
    some_setting stands all none named entered one_conflict one_relax size tree_of halve_conflict enter_conflict halve_relax enter_relax
    answered chosen_by question_of answer_by u16 u32 record_of encode_numbers report_body report_bytes kind_by room_for
reports_hold =
    record {
      conflict_H = record { accepted = refl; room = refl; bytes = refl; ends = refl };
      relaxation_H = record { accepted = refl; room = refl; bytes = refl; ends = refl };
      conflict_C = record { accepted = refl; room = refl; bytes = refl; ends = refl };
      room_H = refl;
      no_room_H = refl;
      room_C = refl;
      no_room_C = refl;
      room_A = refl;
      no_room_A = refl;
    }
