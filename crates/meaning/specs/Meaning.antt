-- What a setting is, and when it meets a row (document 01, "Meaning").
use Rattle.std.specs.Prelude.{ℕ, ◌/◌, ◌%◌, Bool, true, false, not, cond, ◌||◌, List, [], ◌∷◌, eqb, get_or, ℤ, pos, ◌+ℤ◌, ◌*ℤ◌}
use Rattle.std.specs.Int.Signed.{le_z}
use Rattle.std.specs.List.{list_any}
use Rattle.table.specs.Lists.{every}
use Rattle.table.specs.declared.terms.Term.{Term}
use Rattle.table.specs.Rows.{Row, clause, linear}

-- a setting gives each variable 0 or 1, variable 0 first: false is 0, true is 1
abbrev pub Setting : Type 0
Setting = List Bool

-- the setting gives the variable 1
abbrev pub is_one : Setting → ℕ → Bool
is_one setting variable = get_or setting variable false

-- the literal is true: it is twice the variable, plus 1 where it is negated
unfoldable pub is_true : Setting → ℕ → Bool
is_true setting literal = cond (eqb (literal % 2) 0) (is_one setting (literal / 2)) (not (is_one setting (literal / 2)))

-- at least one element passes the test
abbrev pub any_of : {A : Type 0} → (A → Bool) → List A → Bool
any_of test xs = list_any test xs

-- a variable's value as a number
unfoldable pub value_of : Bool → ℕ
value_of false = 0
value_of true = 1

-- a term: weight times value
unfoldable pub product : Setting → Term → ℤ
product setting term = term.weight *ℤ pos (value_of (is_one setting term.variable))

-- the sum of weight times value: a variable named twice counts twice, and no terms have the sum 0
unfoldable pub sum_of : Setting → List Term → ℤ
sum_of setting [] = pos 0
sum_of setting (term ∷ more) = product setting term +ℤ sum_of setting more

-- the setting meets the row: a clause if at least one literal is true, a linear row if the sum is at most the bound
unfoldable pub meets : Setting → Row → Bool
meets setting (clause role literals) = any_of (is_true setting) literals
meets setting (linear role bound row_terms) = le_z (sum_of setting row_terms) bound

-- the role of a row: 0 is the host, r is request r
unfoldable pub role_of : Row → ℕ
role_of (clause role literals) = role
role_of (linear role bound row_terms) = role

-- a selection says which requests are chosen, by their numbers; the host's rows always count
unfoldable pub counts : (ℕ → Bool) → ℕ → Bool
counts chosen role = eqb role 0 || chosen role

-- the setting meets the row where the row counts
unfoldable pub respects : (ℕ → Bool) → Setting → Row → Bool
respects chosen setting row = cond (counts chosen (role_of row)) (meets setting row) true

-- the setting meets all host rows and all rows of the chosen requests
unfoldable pub meets_all : (ℕ → Bool) → Setting → List Row → Bool
meets_all chosen setting rows = every (respects chosen setting) rows
