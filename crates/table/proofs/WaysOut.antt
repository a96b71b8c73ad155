-- The ways out of a record's rule, one law for each refusal number in document 01's order: the tests before it passed, its own did not.
use Rattle.std.proofs.Common.{◌≡◌, ℕ, true, false, List, Ok, Err}
use Rattle.table.specs.declared.record.Phase.{Phase}
use Rattle.table.specs.declared.record.Frame.{Frame}
use Rattle.table.specs.Kinds.{Kind, is_known}
use Rattle.table.specs.Rows.{length_at}
use Rattle.table.specs.Refusals.{NoHead, UnknownKind, WrongLength, OutOfRange, OutOfSequence, NamedTwice, NotZero, TooManyRows}
use Rattle.table.specs.Tests.{head_first, in_sequence, room_for_row, length_right, in_range, no_repeat, adds_to_zero, next_phase, next_frame}
use Rattle.table.specs.Reading.{rule_of, in_phase}

module _ (kind : Kind) (t : List ℕ) (at : ℕ) (phase : Phase) (f : Frame) where
  pub unknown_kind_lem : is_known kind ≡ false → Err UnknownKind ≡ rule_of kind t at (in_phase phase f)
  unfolding rule_of
  unknown_kind_lem h4 = rw h4

  module _ (h4 : is_known kind ≡ true) where
    pub no_head_lem : head_first phase kind ≡ false → Err NoHead ≡ rule_of kind t at (in_phase phase f)
    unfolding rule_of
    no_head_lem h3 = rw (h4, h3)

    module _ (h3 : head_first phase kind ≡ true) where
      pub out_of_sequence_lem : in_sequence phase kind ≡ false → Err OutOfSequence ≡ rule_of kind t at (in_phase phase f)
      unfolding rule_of
      out_of_sequence_lem h7 = rw (h4, h3, h7)

      module _ (h7 : in_sequence phase kind ≡ true) where
        pub too_many_rows_lem : room_for_row kind f.rows ≡ false → Err TooManyRows ≡ rule_of kind t at (in_phase phase f)
        unfolding rule_of
        too_many_rows_lem h10 = rw (h4, h3, h7, h10)

        module _ (h10 : room_for_row kind f.rows ≡ true) where
          pub wrong_length_lem : length_right kind f.requests (length_at t at) ≡ false → Err WrongLength ≡ rule_of kind t at (in_phase phase f)
          unfolding rule_of
          wrong_length_lem h5 = rw (h4, h3, h7, h10, h5)

          module _ (h5 : length_right kind f.requests (length_at t at) ≡ true) where
            pub out_of_range_lem : in_range kind t at f ≡ false → Err OutOfRange ≡ rule_of kind t at (in_phase phase f)
            unfolding rule_of
            out_of_range_lem h6 = rw (h4, h3, h7, h10, h5, h6)

            module _ (h6 : in_range kind t at f ≡ true) where
              pub named_twice_lem : no_repeat kind t at f ≡ false → Err NamedTwice ≡ rule_of kind t at (in_phase phase f)
              unfolding rule_of
              named_twice_lem h8 = rw (h4, h3, h7, h10, h5, h6, h8)

              module _ (h8 : no_repeat kind t at f ≡ true) where
                pub not_zero_lem : adds_to_zero kind t at ≡ false → Err NotZero ≡ rule_of kind t at (in_phase phase f)
                unfolding rule_of
                not_zero_lem h9 = rw (h4, h3, h7, h10, h5, h6, h8, h9)

                pub passes_all :
                    adds_to_zero kind t at ≡ true →
                    Ok (in_phase (next_phase kind) (next_frame kind t at f)) ≡ rule_of kind t at (in_phase phase f)
                unfolding rule_of
                passes_all h9 = rw (h4, h3, h7, h10, h5, h6, h8, h9)
