-- The sample sheet of document 01, rows A to K: each row has its table, byte for byte as the crate `table` has it, and what the sheet says of it.
-- `answers_of` goes from the bytes to the answers through the definitions that the public calls promise, and `SheetHolds` is the one claim:
-- for every row, what is computed is what is stated.
use Rattle.std.specs.Prelude.{ℕ, ◌≡◌, true, false, List, [], ◌∷◌, ◌++◌, map, take, Ok, Err}
use Rattle.table.specs.declared.record.Frame.{Frame}
use Rattle.table.specs.Refusals.{number_of}
use Rattle.table.specs.Reading.{Reading, reading}
use Rattle.table.specs.Sheet.{table_a, table_b, table_c, table_d, table_e, table_f, table_g, table_h, table_i, table_j, table_k, table_three}
use Rattle.table.specs.Samples.{frame_h}
use Rattle.preference.specs.Answer.{Answer}
use Rattle.explain.specs.declared.answers.Method.{Method}
use Rattle.explain.specs.declared.answers.Method.TheVariants.{ConflictByHalving, ConflictOneByOne, RelaxationByHalving, RelaxationOneByOne}
use Rattle.explain.specs.Methods.{answer_by}
use Rattle.promises.specs.Reports.{table_question, room_for, numbers_of, place_after, buffer_after}
use Rattle.promises.specs.Calls.{ReadCall, BodyCall, CanStandCall, ReportCall}

-- what one method answers: status, how many questions it asked, and the request numbers of its set in the order's order
pub record Line : Type 0 where
  pub status : ℕ
  pub count : ℕ
  pub numbers : List ℕ

-- what the four methods answer
pub record Lines : Type 0 where
  pub conflict : Line
  pub relaxation : Line
  pub conflict_one_by_one : Line
  pub relaxation_one_by_one : Line

-- what a table gives: the answers, or a refusal, which no row states
pub data Outcome : Type 0 where
  answers : Lines → Outcome
  refusal : (number place : ℕ) → Outcome

-- the line of an answer
unfoldable pub line_of : List ℕ → Frame → Answer → Line
line_of t f answer = record { status = answer.status; count = answer.asked; numbers = numbers_of t f answer }

-- the answer of a method over the order of a table with this frame
abbrev pub answer_in : List ℕ → Frame → Method → Answer
answer_in t f method = answer_by method (table_question t f) f.requests

-- what a reading makes of its table
unfoldable pub answers_by : Reading → List ℕ → Outcome
answers_by (Ok f) t =
    answers
    (record {
      conflict = line_of t f (answer_in t f ConflictByHalving);
      relaxation = line_of t f (answer_in t f RelaxationByHalving);
      conflict_one_by_one = line_of t f (answer_in t f ConflictOneByOne);
      relaxation_one_by_one = line_of t f (answer_in t f RelaxationOneByOne);
    })
answers_by (Err r) t = refusal (number_of r.fault) r.place

-- from the bytes of a table to its answers
abbrev pub answers_of : List ℕ → Outcome
answers_of t = answers_by (reading t) t

-- status, count and set, as the sheet has them
abbrev pub says : ℕ → ℕ → List ℕ → Line
says status count numbers = record { status = status; count = count; numbers = numbers }

-- a row of the sheet: the table, and what halving gives. One by one gives the same status and set; its count, the same for conflict and
-- relaxation, follows from "The two methods and their counts": 1 with status 0 or N = 0, 2 with status 2 and N at least 1, N + 2 with status 1.
pub record SheetRow : Type 0 where
  pub table : List ℕ
  pub conflict : Line
  pub relaxation : Line
  pub count_one_by_one : ℕ

-- what a row states
abbrev pub stated_by : SheetRow → Outcome
stated_by row =
    answers
    (record {
      conflict = row.conflict;
      relaxation = row.relaxation;
      conflict_one_by_one = says row.conflict.status row.count_one_by_one row.conflict.numbers;
      relaxation_one_by_one = says row.relaxation.status row.count_one_by_one row.relaxation.numbers;
    })

-- A: V 0, N 0, no rows
abbrev pub row_a : SheetRow
row_a = record { table = table_a; conflict = says 0 1 []; relaxation = says 0 1 []; count_one_by_one = 1 }

-- B: N 0, host empty clause
abbrev pub row_b : SheetRow
row_b = record { table = table_b; conflict = says 2 1 []; relaxation = says 2 1 []; count_one_by_one = 1 }

-- C: N 1, host empty clause
abbrev pub row_c : SheetRow
row_c = record { table = table_c; conflict = says 2 2 []; relaxation = says 2 2 []; count_one_by_one = 2 }

-- D: N 1, request 1 an empty clause
abbrev pub row_d : SheetRow
row_d = record { table = table_d; conflict = says 1 2 (1 ∷ []); relaxation = says 1 2 []; count_one_by_one = 3 }

-- E: requests x0, !x0, order 1 2
abbrev pub row_e : SheetRow
row_e = record { table = table_e; conflict = says 1 4 (1 ∷ 2 ∷ []); relaxation = says 1 3 (1 ∷ []); count_one_by_one = 4 }

-- F: the same, order 2 1
abbrev pub row_f : SheetRow
row_f = record { table = table_f; conflict = says 1 4 (2 ∷ 1 ∷ []); relaxation = says 1 3 (2 ∷ []); count_one_by_one = 4 }

-- G: host !x0, requests x0, x0, order 1 2
abbrev pub row_g : SheetRow
row_g = record { table = table_g; conflict = says 1 3 (1 ∷ []); relaxation = says 1 4 []; count_one_by_one = 4 }

-- H: four plug-ins want 1200, 900, 2500 and 700 rows of a bib map of 4000, order 2 4 1 3
abbrev pub row_h : SheetRow
row_h = record { table = table_h; conflict = says 1 8 (2 ∷ 4 ∷ 3 ∷ []); relaxation = says 1 4 (2 ∷ 4 ∷ 1 ∷ []); count_one_by_one = 6 }

-- I: H with bound 4100
abbrev pub row_i : SheetRow
row_i = record { table = table_i; conflict = says 1 7 (2 ∷ 1 ∷ 3 ∷ []); relaxation = says 1 4 (2 ∷ 4 ∷ 1 ∷ []); count_one_by_one = 6 }

-- J: host x0 + x0 at most 1, request x0
abbrev pub row_j : SheetRow
row_j = record { table = table_j; conflict = says 1 2 (1 ∷ []); relaxation = says 1 2 []; count_one_by_one = 3 }

-- K: host -3 x0 at most -1, request !x0
abbrev pub row_k : SheetRow
row_k = record { table = table_k; conflict = says 1 2 (1 ∷ []); relaxation = says 1 2 []; count_one_by_one = 3 }

-- three requests, which document 01 does not have: 1, 1 and 2 of a budget of 2 are wanted, order 1 2 3. A part of three is cut after the first.
abbrev pub row_three : SheetRow
row_three = record { table = table_three; conflict = says 1 6 (1 ∷ 3 ∷ []); relaxation = says 1 4 (1 ∷ 2 ∷ []); count_one_by_one = 5 }

-- the rows, A to K, and that of three requests
abbrev pub sheet : List SheetRow
sheet = row_a ∷ row_b ∷ row_c ∷ row_d ∷ row_e ∷ row_f ∷ row_g ∷ row_h ∷ row_i ∷ row_j ∷ row_k ∷ row_three ∷ []

-- H with its last byte DC
abbrev pub damaged_h : List ℕ
damaged_h = take 91 table_h ++ (220 ∷ [])

-- the claim: every row's table gives what the row states, and the damaged one is refused with 9 at 86
pub record SheetHolds : Type 0 where
  pub rows : map (λ row. answers_of row.table) sheet ≡ map stated_by sheet
  pub damaged : answers_of damaged_h ≡ refusal 9 86

-- a lent buffer of 24 bytes, each another number, and a start in it
abbrev pub lent_buffer : List ℕ
lent_buffer =
    201 ∷ 202 ∷ 203 ∷ 204 ∷ 205 ∷ 206 ∷ 207 ∷ 208 ∷ 209 ∷ 210 ∷ 211 ∷ 212 ∷ 213 ∷ 214 ∷ 215 ∷ 216 ∷ 217 ∷ 218 ∷ 219 ∷ 220 ∷ 221 ∷ 222 ∷ 223 ∷ 224 ∷ []

abbrev pub lent_start : ℕ
lent_start = 2

-- the table is accepted with this frame, the buffer has room, and the report of a method leaves this buffer and ends at this place
pub record ReportIs (method : Method) (t : List ℕ) (f : Frame) (after : List ℕ) (end : ℕ) : Type 0 where
  pub accepted : reading t ≡ Ok f
  pub room : room_for f.requests lent_buffer lent_start ≡ true
  pub bytes : buffer_after method t f lent_buffer lent_start (answer_in t f method) ≡ after
  pub ends : place_after t f lent_start (answer_in t f method) ≡ end

-- V 0, N 1, one row, ORDER at 14
abbrev pub frame_c : Frame
frame_c = record { variables = 0; requests = 1; rows = 1; order = 14 }

-- three whole reports, each a record between bytes that stay; and the room for one, with N 4, 1 and 0: a byte fewer than 12 + 2N is none,
-- though H's reports have 18 bytes
pub record ReportsHold : Type 0 where
  pub conflict_H :
      ReportIs ConflictByHalving table_h frame_h
      ((201 ∷ 202 ∷ [])
      ++ (14 ∷ 0 ∷ 16 ∷ 0 ∷ 1 ∷ 0 ∷ 8 ∷ 0 ∷ 0 ∷ 0 ∷ 3 ∷ 0 ∷ 2 ∷ 0 ∷ 4 ∷ 0 ∷ 3 ∷ 0 ∷ [])
      ++ (221 ∷ 222 ∷ 223 ∷ 224 ∷ []))
      20
  pub relaxation_H :
      ReportIs RelaxationByHalving table_h frame_h
      ((201 ∷ 202 ∷ [])
      ++ (14 ∷ 0 ∷ 17 ∷ 0 ∷ 1 ∷ 0 ∷ 4 ∷ 0 ∷ 0 ∷ 0 ∷ 3 ∷ 0 ∷ 2 ∷ 0 ∷ 4 ∷ 0 ∷ 1 ∷ 0 ∷ [])
      ++ (221 ∷ 222 ∷ 223 ∷ 224 ∷ []))
      20
  pub conflict_C :
      ReportIs ConflictByHalving table_c frame_c
      ((201 ∷ 202 ∷ [])
      ++ (8 ∷ 0 ∷ 16 ∷ 0 ∷ 2 ∷ 0 ∷ 2 ∷ 0 ∷ 0 ∷ 0 ∷ 0 ∷ 0 ∷ [])
      ++ (215 ∷ 216 ∷ 217 ∷ 218 ∷ 219 ∷ 220 ∷ 221 ∷ 222 ∷ 223 ∷ 224 ∷ []))
      14
  pub room_H : room_for frame_h.requests (take 22 lent_buffer) lent_start ≡ true
  pub no_room_H : room_for frame_h.requests (take 21 lent_buffer) lent_start ≡ false
  pub room_C : room_for frame_c.requests (take 16 lent_buffer) lent_start ≡ true
  pub no_room_C : room_for frame_c.requests (take 15 lent_buffer) lent_start ≡ false
  pub room_A : room_for 0 (take 14 lent_buffer) lent_start ≡ true
  pub no_room_A : room_for 0 (take 13 lent_buffer) lent_start ≡ false

-- what the public calls say of H, and of H damaged, in document 01's numbers
pub record CallsHold : Type 0 where
  -- H is accepted; damaged, it is refused with 9 at CHECK's first byte, by every call
  pub accepted : ReadCall table_h 0 0
  pub damaged : ReadCall damaged_h 9 86
  pub damaged_body : BodyCall damaged_h 6 9 0 86
  pub damaged_question : CanStandCall damaged_h 11 9 0 86
  pub damaged_report : ReportCall ConflictByHalving damaged_h lent_buffer lent_start 9 86 lent_buffer
  -- record 6, the ORDER, has its eight bytes from 78 on; there is no record 8
  pub body : BodyCall table_h 6 0 8 78
  pub no_record : BodyCall table_h 8 13 0 92
  -- requests 1, 2 and 4 can stand; 2, 3 and 4 cannot; request 5 is above N
  pub stand : CanStandCall table_h 11 0 1 0
  pub fall : CanStandCall table_h 14 0 0 0
  pub above_N : CanStandCall table_h 16 11 0 0
  -- a selection that is read one bit off is told by its answer: with request r at bit r, 7 were requests 1 and 2, which can stand, and with
  -- request r at bit r-2, 14 were requests 3 and 4, which can
  pub fall_123 : CanStandCall table_h 7 0 0 0
  pub stand_12 : CanStandCall table_h 3 0 1 0
  pub stand_34 : CanStandCall table_h 12 0 1 0
  -- a buffer that is a byte too short
  pub short : ReportCall ConflictByHalving table_h (take 21 lent_buffer) lent_start 12 0 (take 21 lent_buffer)
