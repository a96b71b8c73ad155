-- The limits of a table (document 01, "Table bytes"), each written once, and what is in range.
use Rattle.std.specs.Prelude.{ℕ, ◌+◌, ◌*◌, Bool, ◌&&◌, List, nat_le, nat_lt, unsigned_abs}
use Rattle.table.specs.Lists.{every}
use Rattle.table.specs.Rows.{Term, Row, clause, linear}

-- a table has at most 32,768 bytes
abbrev pub most_bytes : ℕ
most_bytes = 32768

-- variables, 0 to 20
abbrev pub most_variables : ℕ
most_variables = 20

-- requests, 0 to 64
abbrev pub most_requests : ℕ
most_requests = 64

-- rows, at most 512 together
abbrev pub most_rows : ℕ
most_rows = 512

-- literals of a clause, 0 to 64
abbrev pub most_literals : ℕ
most_literals = 64

-- terms of a linear row, 0 to 20
abbrev pub most_terms : ℕ
most_terms = 20

-- weights are -1,000,000 to 1,000,000
abbrev pub most_weight : ℕ
most_weight = 1000000

-- at least `low` and below `high`
unfoldable pub within : ℕ → ℕ → ℕ → Bool
within low high n = nat_le low n && nat_lt n high

-- the variable is one of 0 to v - 1, the weight at most a million either way
unfoldable pub term_in_range : ℕ → Term → Bool
term_in_range v term = nat_lt term.variable v && nat_le (unsigned_abs term.weight) most_weight

-- with v variables and n requests: the role is 0 to n, every literal or term names a variable below v
unfoldable pub row_in_range : ℕ → ℕ → Row → Bool
row_in_range v n (clause role literals) = nat_le role n && every (within 0 (2 * v)) literals
row_in_range v n (linear role bound row_terms) = nat_le role n && every (term_in_range v) row_terms

-- every number of an order is one of the requests 1 to n
abbrev pub order_in_range : ℕ → List ℕ → Bool
order_in_range n order = every (within 1 (n + 1)) order
