-- The sample sheet's tables are the encodings of its models, by computation, and each is accepted with its model's frame.
use Rattle.std.proofs.Common.{◌≡◌, ℕ, ◌<◌, map, refl, arith, Ok}
use Rattle.table.specs.Words.{u16_at, u32_at, i32_at, words, total}
use Rattle.table.specs.Lists.{all_different}
use Rattle.table.specs.Kinds.{kind_of, is_known, is_head}
use Rattle.table.specs.Rows.{term_at, terms, clause_at, linear_at, row_of, rows}
use Rattle.table.specs.Limits.{within, term_in_range, row_in_range}
use Rattle.table.specs.Tests.{is_whole, head_first, in_sequence, room_for_row, length_right, in_range, no_repeat, adds_to_zero, next_phase, next_frame}
use Rattle.table.specs.Reading.{rule_of, step_at, ending_of, scan, reading}
use Rattle.table.specs.Model.{Model, Each, Different, IsI32, RowWithin, WithinLimits}
use Rattle.table.specs.Encoding.{u16, u32, i32, record_of, encode_numbers, encode_term, encode_terms, encode_row, encode_rows, encode_head}
use Rattle.table.specs.Encoding.{encode_order, before_check, sum_of_words, check_word, encode_check, sealed, encode, frame_of, StandsFor}
use Rattle.table.specs.Sheet.{bib_map, sheet_models, sheet_tables, model_h, model_three, table_h}

-- H, byte for byte
pub h_encoded : encode model_h ≡ table_h
unfolding u16 u32 i32 record_of encode_numbers encode_term encode_terms encode_row encode_rows
    encode_head encode_order before_check sum_of_words check_word encode_check sealed encode
h_encoded = refl

-- all of them, one claim
pub sheet_encoded : map encode sheet_models ≡ sheet_tables
unfolding u16 u32 i32 record_of encode_numbers encode_term encode_terms encode_row encode_rows
    encode_head encode_order before_check sum_of_words check_word encode_check sealed encode
sheet_encoded = refl

-- all of them are accepted
pub sheet_accepted : map reading sheet_tables ≡ map (λ (m : Model). Ok (frame_of m)) sheet_models
unfolding u16_at u32_at i32_at words total all_different kind_of is_known is_head term_at terms clause_at linear_at row_of rows within
    term_in_range row_in_range is_whole head_first in_sequence room_for_row length_right in_range no_repeat adds_to_zero next_phase next_frame
    rule_of step_at ending_of scan reading u16 u32 i32 record_of encode_numbers encode_term encode_terms encode_row encode_rows frame_of
sheet_accepted = refl

-- and the models are within the limits
bib_map_within : (budget : ℕ) → budget < 2147483648 → WithinLimits (bib_map budget)
unfolding Each Different RowWithin IsI32
bib_map_within budget h =
    record {
      few_variables = omega arith;
      few_requests = omega arith;
      few_rows = omega arith;
      rows_within = omega arith;
      order_whole = refl;
      order_within = omega arith;
      order_different = omega arith;
    }

three_within : WithinLimits model_three
unfolding Each Different RowWithin IsI32
three_within =
    record {
      few_variables = omega arith;
      few_requests = omega arith;
      few_rows = omega arith;
      rows_within = omega arith;
      order_whole = refl;
      order_within = omega arith;
      order_different = omega arith;
    }

pub sheet_within : Each WithinLimits sheet_models
unfolding Each Different RowWithin IsI32
sheet_within = (
  omega arith,
  (
    omega arith,
    (
      omega arith,
      (
        omega arith,
        (
          omega arith,
          (
            omega arith,
            (
              omega arith,
              (bib_map_within 4000 (omega arith), (bib_map_within 4100 (omega arith), (omega arith, (omega arith, (three_within, tt))))),
            ),
          ),
        ),
      ),
    ),
  ),
)

-- so H stands for its model
pub h_stands : StandsFor table_h model_h
h_stands = record { within = bib_map_within 4000 (omega arith); encoded = h_encoded; short = omega arith }
