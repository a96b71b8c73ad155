-- What an accepted table keeps: for those who use it after the reading, so that none of them tests a byte again.
use Rattle.std.specs.Prelude.{◌≡◌, ℕ, zero, suc, ◌+◌, ◌*◌, ◌≤◌, true, List, length}
use Rattle.table.specs.declared.record.Frame.{Frame}
use Rattle.table.specs.Kinds.{is_row, Head, Order, Check}
use Rattle.table.specs.Words.{u16_at}
use Rattle.table.specs.Lists.{all_different}
use Rattle.table.specs.Rows.{Row, kind_at, length_at, after, row_at, rows, order_at}
use Rattle.table.specs.Limits.{most_bytes, most_variables, most_requests, most_rows, row_in_range, order_in_range}
use Rattle.table.specs.Tests.{length_right, adds_to_zero}

-- the place of the first row: HEAD has eight bytes
abbrev pub first_row : ℕ
first_row = 8

-- the rows of a table with this frame
abbrev pub rows_of : List ℕ → Frame → List Row
rows_of t f = rows f.rows t first_row

-- the order of a table with this frame, most important first
abbrev pub order_of : List ℕ → Frame → List ℕ
order_of t f = order_at f.requests t f.order

-- with v variables and n requests, the record at a place is a whole row of a right length, in range
pub record RowKept (v n : ℕ) (t : List ℕ) (at : ℕ) : Type 0 where
  pub whole : after t at ≤ length t
  pub row : is_row (kind_at t at) ≡ true
  pub right : length_right (kind_at t at) n (length_at t at) ≡ true
  pub is_in_range : row_in_range v n (row_at t at) ≡ true

-- the m records from a place on are such rows, and the last of them ends at `end`
unfoldable pub RowsKept : ℕ → ℕ → List ℕ → ℕ → ℕ → ℕ → Type 0
RowsKept v n t zero at end = at ≡ end
RowsKept v n t (suc m) at end = RowKept v n t at × RowsKept v n t m (after t at) end

-- the table is HEAD with V and N, the rows, ORDER and CHECK, all within their limits
pub record Kept (t : List ℕ) (f : Frame) : Type 0 where
  pub short : length t ≤ most_bytes
  pub head : (kind_at t 0 ≡ Head) × (length_at t 0 ≡ 4)
  pub variables : f.variables ≡ u16_at t 4
  pub requests : f.requests ≡ u16_at t 6
  pub few_variables : f.variables ≤ most_variables
  pub few_requests : f.requests ≤ most_requests
  pub few_rows : f.rows ≤ most_rows
  pub rows_kept : RowsKept f.variables f.requests t f.rows first_row f.order
  pub order : (kind_at t f.order ≡ Order) × (length_at t f.order ≡ 2 * f.requests)
  pub order_is_in_range : order_in_range f.requests (order_of t f) ≡ true
  pub order_different : all_different (order_of t f) ≡ true
  pub check : (kind_at t (after t f.order) ≡ Check) × (length_at t (after t f.order) ≡ 2)
  pub adds : adds_to_zero Check t (after t f.order) ≡ true
  pub end : f.order + 4 + 2 * f.requests + 6 ≡ length t
