-- The tests of one record, in document 01's numbers, each by the record's kind ("Table bytes", "Refusal numbers"), and what is known
-- after a record that passes them all.
use Rattle.std.specs.Prelude.{ℕ, ◌+◌, ◌*◌, ◌/◌, ◌%◌, ◌^◌, Bool, true, false, not, ◌&&◌, List, length, ◌==◌, nat_le, nat_lt}
use Rattle.table.specs.declared.record.Phase.{Phase}
use Rattle.table.specs.declared.record.Phase.TheVariants.{Start, Rows, Ordered, Checked}
use Rattle.table.specs.declared.record.Frame.{Frame}
use Rattle.table.specs.Kinds.{Kind, Head, Clause, Linear, Order, Check, Unknown, is_head}
use Rattle.table.specs.Words.{u16_at, words, total}
use Rattle.table.specs.Lists.{all_different}
use Rattle.table.specs.Rows.{after, clause_at, linear_at, order_at}
use Rattle.table.specs.Limits.{most_variables, most_requests, most_rows, most_literals, most_terms, row_in_range, order_in_range}

-- 2: four bytes are left, and the body does not pass the end
unfoldable pub is_whole : List ℕ → ℕ → Bool
is_whole t at = nat_le (at + 4) (length t) && nat_le (after t at) (length t)

-- 3: the first record is HEAD, and no later one is
unfoldable pub head_first : Phase → Kind → Bool
head_first Start kind = is_head kind
head_first Rows kind = not (is_head kind)
head_first Ordered kind = not (is_head kind)
head_first Checked kind = not (is_head kind)

-- 7: HEAD comes first, then rows, one ORDER, one CHECK, and the end
unfoldable pub in_sequence : Phase → Kind → Bool
in_sequence Start kind = true
in_sequence Rows Head = false
in_sequence Rows Clause = true
in_sequence Rows Linear = true
in_sequence Rows Order = true
in_sequence Rows Check = false
in_sequence Rows Unknown = false
in_sequence Ordered Head = false
in_sequence Ordered Clause = false
in_sequence Ordered Linear = false
in_sequence Ordered Order = false
in_sequence Ordered Check = true
in_sequence Ordered Unknown = false
in_sequence Checked kind = false

-- 10: a row is at most the 512th
unfoldable pub room_for_row : Kind → ℕ → Bool
room_for_row Head rows = true
room_for_row Clause rows = nat_lt rows most_rows
room_for_row Linear rows = nat_lt rows most_rows
room_for_row Order rows = true
room_for_row Check rows = true
room_for_row Unknown rows = true

-- L is `unit` bytes and at most `most` parts of as many bytes each
unfoldable pub row_length : (unit most l : ℕ) → Bool
row_length unit most l = nat_le unit l && nat_le l (unit + unit * most) && l % unit == 0

-- 5: L is right for its kind, with n requests
unfoldable pub length_right : Kind → ℕ → ℕ → Bool
length_right Head n l = l == 4
length_right Clause n l = nat_le 2 l && nat_le l (2 + 2 * most_literals) && l % 2 == 0
length_right Linear n l = nat_le 6 l && nat_le l (6 + 6 * most_terms) && l % 6 == 0
length_right Order n l = l == 2 * n
length_right Check n l = l == 2
length_right Unknown n l = true

-- 6: V, N, role, variable, weight and order number are in range
unfoldable pub in_range : Kind → List ℕ → ℕ → Frame → Bool
in_range Head t at f = nat_le (u16_at t (at + 4)) most_variables && nat_le (u16_at t (at + 6)) most_requests
in_range Clause t at f = row_in_range f.variables f.requests (clause_at t at)
in_range Linear t at f = row_in_range f.variables f.requests (linear_at t at)
in_range Order t at f = order_in_range f.requests (order_at f.requests t at)
in_range Check t at f = true
in_range Unknown t at f = true

-- 8: ORDER names no request twice
unfoldable pub no_repeat : Kind → List ℕ → ℕ → Frame → Bool
no_repeat Head t at f = true
no_repeat Clause t at f = true
no_repeat Linear t at f = true
no_repeat Order t at f = all_different (order_at f.requests t at)
no_repeat Check t at f = true
no_repeat Unknown t at f = true

-- 9: the words from the table's start to CHECK's end add to zero, carries past 16 bits thrown away
unfoldable pub adds_to_zero : Kind → List ℕ → ℕ → Bool
adds_to_zero Head t at = true
adds_to_zero Clause t at = true
adds_to_zero Linear t at = true
adds_to_zero Order t at = true
adds_to_zero Check t at = total (words ((at + 6) / 2) t 0) % 2 ^ 16 == 0
adds_to_zero Unknown t at = true

-- how far the table has come after a record
unfoldable pub next_phase : Kind → Phase
next_phase Head = Rows
next_phase Clause = Rows
next_phase Linear = Rows
next_phase Order = Ordered
next_phase Check = Checked
next_phase Unknown = Checked

-- what is known after a record: HEAD tells V and N, a row is counted, ORDER's place is kept
unfoldable pub next_frame : Kind → List ℕ → ℕ → Frame → Frame
next_frame Head t at f = record { variables = u16_at t (at + 4); requests = u16_at t (at + 6); rows = 0; order = 0 }
next_frame Clause t at f = record { variables = f.variables; requests = f.requests; rows = f.rows + 1; order = 0 }
next_frame Linear t at f = record { variables = f.variables; requests = f.requests; rows = f.rows + 1; order = 0 }
next_frame Order t at f = record { variables = f.variables; requests = f.requests; rows = f.rows; order = at }
next_frame Check t at f = f
next_frame Unknown t at f = f
