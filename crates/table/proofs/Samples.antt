-- Table H, computed.
use Rattle.std.proofs.Common.{refl}
use Rattle.table.specs.Words.{u16_at, u32_at, i32_at, words, total}
use Rattle.table.specs.Lists.{all_different}
use Rattle.table.specs.Kinds.{kind_of, is_known, is_head}
use Rattle.table.specs.Rows.{term_at, terms, clause_at, linear_at, row_of, rows}
use Rattle.table.specs.Limits.{within, term_in_range, row_in_range}
use Rattle.table.specs.Tests.{is_whole, head_first, in_sequence, room_for_row, length_right, in_range, no_repeat, adds_to_zero, next_phase, next_frame}
use Rattle.table.specs.Reading.{rule_of, step_at, ending_of, scan, reading}
use Rattle.table.specs.Body.{place_of_record, stretch_at, stretch_by, bytes_of}
use Rattle.table.specs.Samples.{SamplesHold}

pub samples_hold : SamplesHold
unfolding u16_at u32_at i32_at words total all_different kind_of is_known is_head term_at terms clause_at linear_at row_of
    rows within term_in_range row_in_range is_whole head_first in_sequence room_for_row length_right in_range no_repeat
    adds_to_zero next_phase next_frame rule_of step_at ending_of scan reading place_of_record stretch_at stretch_by bytes_of
samples_hold =
    record {
      h_accepted = refl;
      h_with_last_byte_dc = refl;
      h_cut = refl;
      h_without_order = refl;
      h_body = refl;
      h_no_record = refl;
      h_order = refl;
      h_rows = refl;
    }
