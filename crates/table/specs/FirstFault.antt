-- Tables and single records with one or two faults, and the number and place that the first test gives (document 01, "Refusal numbers").
-- The order of the tests, the numbers and the limits stand here a second time, byte by byte and without names, on purpose: a test in the wrong
-- place or a number that is another one's would be refused here, though definition and code agreed on it.
use Rattle.std.specs.Prelude.{◌≡◌, ℕ, ◌<◌, List, [], ◌∷◌, ◌++◌, length, replicate, Ok, Err}
use Rattle.table.specs.declared.record.Phase.{Phase}
use Rattle.table.specs.declared.record.Phase.TheVariants.{Start, Rows, Ordered}
use Rattle.table.specs.Refusals.{number_of}
use Rattle.table.specs.Reading.{Step, step_at, in_phase, reading, number_of_reading, place_of_reading}
use Rattle.table.specs.Sheet.{table_a}

-- a record as bytes: L and kind below 256, right or wrong, and a body that need not have L bytes
abbrev pub bytes_with : (l kind : ℕ) (body : List ℕ) → List ℕ
bytes_with l kind body = l ∷ 0 ∷ kind ∷ 0 ∷ body

-- HEAD with V 1 and N 2, eight bytes
abbrev pub head : List ℕ
head = bytes_with 4 1 (1 ∷ 0 ∷ 2 ∷ 0 ∷ [])

-- ORDER 1 2, eight bytes
abbrev pub order : List ℕ
order = bytes_with 4 4 (1 ∷ 0 ∷ 2 ∷ 0 ∷ [])

-- a CLAUSE of the host without literals, and one of request 3, which there is not; six bytes each
abbrev pub row : List ℕ
row = bytes_with 2 2 (0 ∷ 0 ∷ [])

abbrev pub foreign_row : List ℕ
foreign_row = bytes_with 2 2 (3 ∷ 0 ∷ [])

-- CHECK with the word 1, which makes no table here add to zero, six bytes
abbrev pub check : List ℕ
check = bytes_with 2 5 (1 ∷ 0 ∷ [])

-- the number and place that a table is refused with; 0 and 0 where it is accepted
abbrev pub told : List ℕ → ℕ × ℕ
told t = (number_of_reading (reading t), place_of_reading (reading t))

-- Of two faults the one that is tested first is told. The tests in their order: 2, 4, 3, 7, 10, 5, 6, 8, 9.
pub record FirstFaultIsTold : Type 0 where
  -- the empty table: 3 at 0
  pub empty : told [] ≡ (3, 0)
  -- 1 to 3 bytes left: 2
  pub three_bytes : told (head ++ (2 ∷ 0 ∷ 2 ∷ [])) ≡ (2, 8)
  -- 2 before 4: a body passes the end, and the kind is unknown
  pub cut_before_unknown : told (head ++ bytes_with 3 9 (0 ∷ 0 ∷ [])) ≡ (2, 8)
  -- 2 before 3
  pub cut_before_head : told (bytes_with 4 2 (0 ∷ 0 ∷ [])) ≡ (2, 0)
  -- kinds 0 and 6 are unknown
  pub kind_0 : told (head ++ bytes_with 0 0 []) ≡ (4, 8)
  pub kind_6 : told (head ++ bytes_with 0 6 []) ≡ (4, 8)
  -- 4 before 3: the first record is unknown, and so no HEAD
  pub unknown_before_head : told (bytes_with 0 9 []) ≡ (4, 0)
  -- 4 before 7: an unknown record after ORDER
  pub unknown_before_sequence : told (head ++ order ++ bytes_with 0 9 []) ≡ (4, 16)
  -- 3 before 7: the first record is one that would come later
  pub order_first : told order ≡ (3, 0)
  pub check_first : told check ≡ (3, 0)
  -- 3 before 5: the first record is a row of a wrong length; a second HEAD is one of a wrong length
  pub head_before_length : told (bytes_with 3 2 (0 ∷ 0 ∷ 0 ∷ [])) ≡ (3, 0)
  pub second_head_before_length : told (head ++ bytes_with 0 1 []) ≡ (3, 8)
  -- a second HEAD is 3 wherever it stands: among the rows, after ORDER, after CHECK
  pub head_among_rows : told (head ++ row ++ head) ≡ (3, 14)
  pub head_after_order : told (head ++ order ++ head) ≡ (3, 16)
  pub head_after_check : told (table_a ++ head) ≡ (3, 18)
  -- 7: CHECK before ORDER, a row after ORDER, a second ORDER
  pub check_before_order : told (head ++ check) ≡ (7, 8)
  pub row_after_order : told (head ++ order ++ row) ≡ (7, 16)
  pub second_order : told (head ++ order ++ order) ≡ (7, 16)
  -- the end comes before CHECK: 7 at the table's length
  pub end_after_head : told head ≡ (7, 8)
  pub end_after_row : told (head ++ row) ≡ (7, 14)
  pub end_after_order : told (head ++ order) ≡ (7, 16)
  -- 7 before 5 and 6: a row after ORDER that has a wrong length, one that is out of range
  pub sequence_before_length : told (head ++ order ++ bytes_with 3 2 (0 ∷ 0 ∷ 0 ∷ [])) ≡ (7, 16)
  pub sequence_before_range : told (head ++ order ++ foreign_row) ≡ (7, 16)
  -- 5 before 6, for each kind: HEAD with V 21, CLAUSE and LINEAR of request 3, ORDER that names request 3
  pub head_length_before_range : told (bytes_with 6 1 (21 ∷ 0 ∷ 2 ∷ 0 ∷ 0 ∷ 0 ∷ [])) ≡ (5, 0)
  pub clause_length_before_range : told (head ++ bytes_with 3 2 (3 ∷ 0 ∷ 0 ∷ [])) ≡ (5, 8)
  pub linear_length_before_range : told (head ++ bytes_with 8 3 (3 ∷ 0 ∷ 0 ∷ 0 ∷ 0 ∷ 0 ∷ 0 ∷ 0 ∷ [])) ≡ (5, 8)
  pub order_length_before_range : told (head ++ bytes_with 2 4 (3 ∷ 0 ∷ [])) ≡ (5, 8)
  -- 5 before 9: CHECK of a wrong length, and the words do not add to zero
  pub check_length_before_sum : told (head ++ order ++ bytes_with 4 5 (1 ∷ 0 ∷ 0 ∷ 0 ∷ [])) ≡ (5, 16)
  -- 6 before 8: ORDER names request 3 twice, which there is not
  pub range_before_twice : told (head ++ bytes_with 4 4 (3 ∷ 0 ∷ 3 ∷ 0 ∷ [])) ≡ (6, 8)
  -- 8 before 9: ORDER names request 1 twice, and the words do not add to zero
  pub twice_before_sum : told (head ++ bytes_with 4 4 (1 ∷ 0 ∷ 1 ∷ 0 ∷ []) ++ check) ≡ (8, 8)
  -- 9 at CHECK, also where bytes come after it
  pub sum : told (head ++ order ++ check) ≡ (9, 16)
  pub sum_before_more : told (head ++ order ++ check ++ head) ≡ (9, 16)
  -- after CHECK what remains is a further record: 2, 4 or 7 (3 stands above)
  pub bytes_after_check : told (table_a ++ (0 ∷ [])) ≡ (2, 18)
  pub unknown_after_check : told (table_a ++ bytes_with 0 9 []) ≡ (4, 18)
  pub row_after_check : told (table_a ++ row) ≡ (7, 18)
  pub second_check : told (table_a ++ check) ≡ (7, 18)

-- a table with more than 32,768 bytes is refused for that alone, whatever they are (one with no more may be accepted: `StandsFor`)
abbrev pub TooLongIsTold : Type 0
TooLongIsTold = (t : List ℕ) → 32768 < length t → told t ≡ (1, 0)

-- one record read by itself, in a table of V 20 and N 64 that has come so far and has so many rows before it
abbrev pub alone : Phase → (rows : ℕ) → List ℕ → Step
alone phase rows record_bytes = step_at record_bytes 0 (in_phase phase (record { variables = 20; requests = 64; rows = rows; order = 0 }))

-- the number that a record is refused with, and 0 where it passes
unfoldable pub number_of_step : Step → ℕ
number_of_step (Ok state) = 0
number_of_step (Err fault) = number_of fault

-- a HEAD, a CLAUSE and a LINEAR by itself
abbrev pub head_told : List ℕ → ℕ
head_told record_bytes = number_of_step (alone Start 0 record_bytes)

abbrev pub row_told : List ℕ → ℕ
row_told record_bytes = number_of_step (alone Rows 0 record_bytes)

-- a CLAUSE of a role with one literal, and a LINEAR of a role with bound 0 and one term: variable, and weight as four bytes
abbrev pub clause_with : (role literal : ℕ) → List ℕ
clause_with role literal = bytes_with 4 2 (role ∷ 0 ∷ literal ∷ 0 ∷ [])

abbrev pub linear_with : (role variable : ℕ) (weight : List ℕ) → List ℕ
linear_with role variable weight = bytes_with 12 3 ((role ∷ 0 ∷ 0 ∷ 0 ∷ 0 ∷ 0 ∷ variable ∷ 0 ∷ []) ++ weight)

-- Each limit at both sides: what it allows passes, and one more is told.
pub record LimitsAreTold : Type 0 where
  -- V 20 and 21, N 64 and 65
  pub v_20 : head_told (bytes_with 4 1 (20 ∷ 0 ∷ 0 ∷ 0 ∷ [])) ≡ 0
  pub v_21 : head_told (bytes_with 4 1 (21 ∷ 0 ∷ 0 ∷ 0 ∷ [])) ≡ 6
  pub n_64 : head_told (bytes_with 4 1 (0 ∷ 0 ∷ 64 ∷ 0 ∷ [])) ≡ 0
  pub n_65 : head_told (bytes_with 4 1 (0 ∷ 0 ∷ 65 ∷ 0 ∷ [])) ≡ 6
  -- 512 rows and 513
  pub row_512 : number_of_step (alone Rows 511 row) ≡ 0
  pub row_513 : number_of_step (alone Rows 512 row) ≡ 10
  -- 7 before 10; 10 before 5 and 6
  pub sequence_before_513 : number_of_step (alone Ordered 512 row) ≡ 7
  pub row_513_before_length : number_of_step (alone Rows 512 (bytes_with 3 2 (0 ∷ 0 ∷ 0 ∷ []))) ≡ 10
  pub row_513_before_range : number_of_step (alone Rows 512 (clause_with 65 0)) ≡ 10
  -- L of a CLAUSE: even, 2 to 130
  pub clause_0 : row_told (bytes_with 0 2 []) ≡ 5
  pub clause_2 : row_told (bytes_with 2 2 (replicate 2 0)) ≡ 0
  pub clause_3 : row_told (bytes_with 3 2 (replicate 3 0)) ≡ 5
  pub clause_130 : row_told (bytes_with 130 2 (replicate 130 0)) ≡ 0
  pub clause_132 : row_told (bytes_with 132 2 (replicate 132 0)) ≡ 5
  -- L of a LINEAR: 6 + 6t, t 0 to 20
  pub linear_0 : row_told (bytes_with 0 3 []) ≡ 5
  pub linear_6 : row_told (bytes_with 6 3 (replicate 6 0)) ≡ 0
  pub linear_8 : row_told (bytes_with 8 3 (replicate 8 0)) ≡ 5
  pub linear_126 : row_told (bytes_with 126 3 (replicate 126 0)) ≡ 0
  pub linear_132 : row_told (bytes_with 132 3 (replicate 132 0)) ≡ 5
  -- roles 0 to 64
  pub clause_of_64 : row_told (clause_with 64 0) ≡ 0
  pub clause_of_65 : row_told (clause_with 65 0) ≡ 6
  pub linear_of_64 : row_told (linear_with 64 0 (replicate 4 0)) ≡ 0
  pub linear_of_65 : row_told (linear_with 65 0 (replicate 4 0)) ≡ 6
  -- variables 0 to 19: literal 39 is variable 19 negated
  pub literal_39 : row_told (clause_with 0 39) ≡ 0
  pub literal_40 : row_told (clause_with 0 40) ≡ 6
  pub variable_19 : row_told (linear_with 0 19 (replicate 4 0)) ≡ 0
  pub variable_20 : row_told (linear_with 0 20 (replicate 4 0)) ≡ 6
  -- weights -1,000,000 to 1,000,000
  pub weight_most : row_told (linear_with 0 0 (0x40 ∷ 0x42 ∷ 0x0F ∷ 0x00 ∷ [])) ≡ 0
  pub weight_above : row_told (linear_with 0 0 (0x41 ∷ 0x42 ∷ 0x0F ∷ 0x00 ∷ [])) ≡ 6
  pub weight_least : row_told (linear_with 0 0 (0xC0 ∷ 0xBD ∷ 0xF0 ∷ 0xFF ∷ [])) ≡ 0
  pub weight_below : row_told (linear_with 0 0 (0xBF ∷ 0xBD ∷ 0xF0 ∷ 0xFF ∷ [])) ≡ 6
  -- any i32 as the bound
  pub bound_most : row_told (bytes_with 6 3 (0 ∷ 0 ∷ 0xFF ∷ 0xFF ∷ 0xFF ∷ 0x7F ∷ [])) ≡ 0
  pub bound_least : row_told (bytes_with 6 3 (0 ∷ 0 ∷ 0x00 ∷ 0x00 ∷ 0x00 ∷ 0x80 ∷ [])) ≡ 0
  -- ORDER names the requests 1 to N: with N 2, neither 0 nor 3 (that 1 and 2 pass, `sum` above shows)
  pub order_0 : told (head ++ bytes_with 4 4 (0 ∷ 0 ∷ 1 ∷ 0 ∷ [])) ≡ (6, 8)
  pub order_3 : told (head ++ bytes_with 4 4 (1 ∷ 0 ∷ 3 ∷ 0 ∷ [])) ≡ (6, 8)
