-- Table H of document 01's sample sheet: what the reading and the definitions over the bytes make of it, whole, damaged and cut.
use Rattle.std.specs.Prelude.{◌≡◌, [], ◌∷◌, ◌++◌, take, pos, Ok, Err}
use Rattle.table.specs.declared.record.Frame.{Frame}
use Rattle.table.specs.Rows.{clause, linear}
use Rattle.table.specs.Refusals.{NotZero, Cut, OutOfSequence, NoRecord}
use Rattle.table.specs.Reading.{reading, refused_at}
use Rattle.table.specs.Body.{stretch_of, body_of}
use Rattle.table.specs.Kept.{rows_of, order_of}
use Rattle.table.specs.Sheet.{table_h}

-- V 4, N 4, five rows, ORDER at 74
abbrev pub frame_h : Frame
frame_h = record { variables = 4; requests = 4; rows = 5; order = 74 }

-- what the reading and the definitions over the bytes make of them
pub record SamplesHold : Type 0 where
  -- H is accepted
  pub h_accepted :
      reading table_h ≡ Ok frame_h
  -- H with its last byte DC: 9 at CHECK
  pub h_with_last_byte_dc :
      reading (take 91 table_h ++ (220 ∷ [])) ≡ refused_at NotZero 86
  -- H cut inside its second record: 2 there
  pub h_cut :
      reading (take 20 table_h) ≡ refused_at Cut 8
  -- H cut before ORDER: the end comes before CHECK
  pub h_without_order :
      reading (take 74 table_h) ≡ refused_at OutOfSequence 74
  -- the body of record 6 of H is the order
  pub h_body :
      body_of table_h 6 ≡ 2 ∷ 0 ∷ 4 ∷ 0 ∷ 1 ∷ 0 ∷ 3 ∷ 0 ∷ []
  -- H has no record 8: 13 at its length
  pub h_no_record :
      stretch_of table_h 8 ≡ Err (record { fault = NoRecord; place = 92 })
  -- the order of H
  pub h_order :
      order_of table_h frame_h ≡ 2 ∷ 4 ∷ 1 ∷ 3 ∷ []
  -- the rows of H: four plug-ins want 1200, 900, 2500 and 700 rows of a bib map of 4000
  pub h_rows :
      rows_of table_h frame_h
      ≡ linear 0 (pos 4000)
      (record { variable = 0; weight = pos 1200 }
      ∷ record { variable = 1; weight = pos 900 }
      ∷ record { variable = 2; weight = pos 2500 }
      ∷ record { variable = 3; weight = pos 700 }
      ∷ [])
      ∷ clause 1 (0 ∷ [])
      ∷ clause 2 (2 ∷ [])
      ∷ clause 3 (4 ∷ [])
      ∷ clause 4 (6 ∷ [])
      ∷ []
