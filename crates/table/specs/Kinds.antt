-- The kinds of records (document 01, "Table bytes").
use Rattle.std.specs.Prelude.{ℕ, Bool, true, false, cond, ◌==◌}
pub use Rattle.table.specs.declared.kinds.Kind.{Kind}
pub use Rattle.table.specs.declared.kinds.Kind.TheVariants.{Head, Clause, Linear, Order, Check, Unknown}

-- the kind that a kind number names: kinds 0 and 6 to 65,535 are unknown
unfoldable pub kind_of : ℕ → Kind
kind_of n =
    cond (n == 1) Head
    (cond (n == 2) Clause
    (cond (n == 3) Linear
    (cond (n == 4) Order
    (cond (n == 5) Check Unknown))))

-- the kind is one of 1 to 5
unfoldable pub is_known : Kind → Bool
is_known Head = true
is_known Clause = true
is_known Linear = true
is_known Order = true
is_known Check = true
is_known Unknown = false

-- the record is HEAD
unfoldable pub is_head : Kind → Bool
is_head Head = true
is_head Clause = false
is_head Linear = false
is_head Order = false
is_head Check = false
is_head Unknown = false

-- the record is a row
unfoldable pub is_row : Kind → Bool
is_row Head = false
is_row Clause = true
is_row Linear = true
is_row Order = false
is_row Check = false
is_row Unknown = false
