-- When a selection can stand (document 01, "Meaning": it can stand if some setting meets all host rows and all rows of the selected requests).
use Rattle.std.specs.Prelude.{ℕ, zero, suc, ◌≡◌, Bool, true, false, ◌||◌, eqb, length, get_or}
use mathlib.Core.List.{List, [], ◌∷◌, Memᴰ}
use Rattle.table.specs.Rows.{Row}
use Rattle.meaning.specs.Meaning.{Setting, any_of, meets, role_of, meets_all}

-- some setting of n variables, with the values `decided` for those above them, passes the test; no variable leaves one setting
unfoldable pub some_setting : ℕ → Setting → (Setting → Bool) → Bool
some_setting zero decided test = test decided
some_setting (suc n) decided test = some_setting n (false ∷ decided) test || some_setting n (true ∷ decided) test

-- with v variables, the chosen requests can stand together with the host
unfoldable pub stands : List Row → ℕ → (ℕ → Bool) → Bool
stands rows v chosen = some_setting v [] (λ setting. meets_all chosen setting rows)

-- the setting has v values, and meets every host row and every row of a chosen request
pub record Meeting (rows : List Row) (v : ℕ) (chosen : ℕ → Bool) (setting : Setting) : Type 0 where
  pub each : length setting ≡ v
  pub meets_host : (row : Row) → Memᴰ row rows → role_of row ≡ 0 → meets setting row ≡ true
  pub meets_chosen : (row : Row) → Memᴰ row rows → chosen (role_of row) ≡ true → meets setting row ≡ true

-- a selection by a list, entry r for request r and entry 0 for the host
abbrev pub by_role : List Bool → ℕ → Bool
by_role chosen role = get_or chosen role false

-- the requests of a selection and one request more
unfoldable pub adding : ℕ → (ℕ → Bool) → ℕ → Bool
adding request chosen role = eqb role request || chosen role

-- the request has a row
unfoldable pub has_rows : ℕ → List Row → Bool
has_rows request rows = any_of (λ row. eqb (role_of row) request) rows
