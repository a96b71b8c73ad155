-- The rows of a table as they are meant, read out of its bytes (document 01, "Table bytes").
use Rattle.std.specs.Prelude.{ℕ, zero, suc, ◌+◌, ◌-◌, ◌/◌, List, [], ◌∷◌, ℤ}
pub use Rattle.table.specs.declared.terms.Term.{Term}
use Rattle.table.specs.Words.{u16_at, i32_at, words}
use Rattle.table.specs.Kinds.{Kind, Head, Clause, Linear, Order, Check, Unknown, kind_of}

-- a row: role 0 is the host, role r is request r; a literal is twice the variable, plus 1 where it is negated
pub data Row : Type 0 where
  clause : (role : ℕ) (literals : List ℕ) → Row
  linear : (role : ℕ) (bound : ℤ) (row_terms : List Term) → Row

-- the length L of the record at a place
abbrev pub length_at : List ℕ → ℕ → ℕ
length_at t at = u16_at t at

-- the kind of the record at a place
abbrev pub kind_at : List ℕ → ℕ → Kind
kind_at t at = kind_of (u16_at t (at + 2))

-- the place after the record at a place
abbrev pub after : List ℕ → ℕ → ℕ
after t at = at + 4 + length_at t at

-- the term at a place: u16 variable and i32 weight
unfoldable pub term_at : List ℕ → ℕ → Term
term_at t i = record { variable = u16_at t i; weight = i32_at t (i + 2) }

-- the term in its six bytes
abbrev pub term_in : List ℕ → Term
term_in bytes = term_at bytes 0

-- the k terms from a place on
unfoldable pub terms : ℕ → List ℕ → ℕ → List Term
terms zero t i = []
terms (suc k) t i = term_at t i ∷ terms k t (i + 6)

-- the CLAUSE record at a place: u16 role, then literals of u16
unfoldable pub clause_at : List ℕ → ℕ → Row
clause_at t at = clause (u16_at t (at + 4)) (words ((length_at t at - 2) / 2) t (at + 6))

-- the LINEAR record at a place: u16 role, i32 bound, then terms
unfoldable pub linear_at : List ℕ → ℕ → Row
linear_at t at = linear (u16_at t (at + 4)) (i32_at t (at + 6)) (terms ((length_at t at - 6) / 6) t (at + 10))

-- the row of a kind at a place; only kinds 2 and 3 are rows
unfoldable pub row_of : Kind → List ℕ → ℕ → Row
row_of Linear t at = linear_at t at
row_of Head t at = clause_at t at
row_of Clause t at = clause_at t at
row_of Order t at = clause_at t at
row_of Check t at = clause_at t at
row_of Unknown t at = clause_at t at

-- the row at a place
abbrev pub row_at : List ℕ → ℕ → Row
row_at t at = row_of (kind_at t at) t at

-- the m rows from a place on
unfoldable pub rows : ℕ → List ℕ → ℕ → List Row
rows zero t at = []
rows (suc m) t at = row_at t at ∷ rows m t (after t at)

-- the n request numbers of the ORDER record at a place, most important first
abbrev pub order_at : ℕ → List ℕ → ℕ → List ℕ
order_at n t at = words n t (at + 4)
