-- A table as it is meant: its model, and the limits of document 01 ("Table bytes") as plain statements, without tests and places.
-- The numbers stand here a second time on purpose; that they are those of the tests is proved.
use Rattle.std.specs.Prelude.{◌≡◌, ℕ, ◌/◌, ◌<◌, ◌≤◌, List, [], ◌∷◌, ◌++◌, length, ℤ, pos, negsuc, unsigned_abs}
use Rattle.table.specs.Rows.{Term, Row, clause, linear}

-- what a table says: how many variables and requests, the rows as they stand, and the order, most important first
pub record Model : Type 0 where
  pub variables : ℕ
  pub requests : ℕ
  pub rows : List Row
  pub order : List ℕ

-- the model with one row more at the end
unfoldable pub with_row : Model → Row → Model
with_row m row = record { variables = m.variables; requests = m.requests; rows = m.rows ++ (row ∷ []); order = m.order }

-- something holds of each element of a list
unfoldable pub Each : {A : Type 0} → (A → Type 0) → List A → Type 0
Each Holds [] = Unit
Each Holds (x ∷ xs) = Holds x × Each Holds xs

-- a number is another one than x
abbrev pub OtherThan : ℕ → ℕ → Type 0
OtherThan x y = x ≡ y → ⊥

-- no number stands in the list twice
unfoldable pub Different : List ℕ → Type 0
Different [] = Unit
Different (x ∷ xs) = Each (OtherThan x) xs × Different xs

-- an i32: -2,147,483,648 to 2,147,483,647 (`negsuc n` is -(n + 1))
unfoldable pub IsI32 : ℤ → Type 0
IsI32 (pos n) = n < 2147483648
IsI32 (negsuc n) = n < 2147483648

-- a literal is twice the variable, plus 1 where it is negated: its variable is one of 0 to v - 1
abbrev pub LiteralWithin : ℕ → ℕ → Type 0
LiteralWithin v literal = literal / 2 < v

-- a term's variable is one of 0 to v - 1, its weight -1,000,000 to 1,000,000
pub record TermWithin (v : ℕ) (term : Term) : Type 0 where
  pub variable_within : term.variable < v
  pub weight_within : unsigned_abs term.weight ≤ 1000000

-- a clause has role 0 to n and 0 to 64 literals
pub record ClauseWithin (v n role : ℕ) (literals : List ℕ) : Type 0 where
  pub role_within : role ≤ n
  pub few_literals : length literals ≤ 64
  pub literals_within : Each (LiteralWithin v) literals

-- a linear row has role 0 to n, any i32 as its bound, and 0 to 20 terms
pub record LinearWithin (v n role : ℕ) (bound : ℤ) (row_terms : List Term) : Type 0 where
  pub role_within : role ≤ n
  pub bound_within : IsI32 bound
  pub few_terms : length row_terms ≤ 20
  pub terms_within : Each (TermWithin v) row_terms

-- a row of a table with v variables and n requests
unfoldable pub RowWithin : ℕ → ℕ → Row → Type 0
RowWithin v n (clause role literals) = ClauseWithin v n role literals
RowWithin v n (linear role bound row_terms) = LinearWithin v n role bound row_terms

-- a request's number is 1 to n
abbrev pub IsRequest : ℕ → ℕ → Type 0
IsRequest n request = (1 ≤ request) × (request ≤ n)

-- a model within the limits: variables, 0 to 20; requests, 0 to 64; at most 512 rows; the order names each request once
pub record WithinLimits (m : Model) : Type 0 where
  pub few_variables : m.variables ≤ 20
  pub few_requests : m.requests ≤ 64
  pub few_rows : length m.rows ≤ 512
  pub rows_within : Each (RowWithin m.variables m.requests) m.rows
  pub order_whole : length m.order ≡ m.requests
  pub order_within : Each (IsRequest m.requests) m.order
  pub order_different : Different m.order
