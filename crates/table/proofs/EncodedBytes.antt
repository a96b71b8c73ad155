-- The table of a model within the limits is a list of bytes: every number in it fits its place.
use Rattle.std.proofs.Common.{◌≡◌, ℕ, ◌+◌, ◌/◌, ◌%◌, ◌<◌, ◌≤◌, List, [], ◌∷◌, ◌++◌, length, ℤ, arith, w32, of_z}
use Rattle.std.proofs.Math.Facts.{Fits-of_z}
use Rattle.table.specs.Rows.{Term, Row, clause, linear}
use Rattle.table.specs.Model.{Model, Each, IsI32, LiteralWithin, TermWithin, ClauseWithin, LinearWithin, RowWithin, IsRequest, WithinLimits}
use Rattle.table.specs.Encoding.{IsByte, IsBytes, u16, u32, i32, record_of, encode_numbers, encode_term, encode_terms, encode_row}
use Rattle.table.specs.Encoding.{encode_rows, encode_head, encode_order, before_check, sum_of_words, check_word, encode_check, sealed, encode}
use Rattle.table.proofs.Standing.{i32_fits, weight_fits}
use Rattle.table.proofs.Limited.{each_append, each_map}
use Rattle.table.proofs.Sizes.{length_numbers, length-terms}
use Rattle.table.proofs.CheckWord.{check_small}

-- a number that a u16 holds
abbrev pub IsU16 : ℕ → Type 0
IsU16 n = n < 65536

pub u16_bytes : (n : ℕ) → IsU16 n → IsBytes (u16 n)
unfolding Each u16
u16_bytes n h = (omega arith, (omega arith, tt))

pub i32_bytes : (z : ℤ) → IsI32 z → IsBytes (i32 z)
unfolding i32 u32
i32_bytes z h =
    let fits = (Fits-of_z (i32_fits z h)).fits in
    each_append IsByte (u16 (of_z w32 z % 65536)) (u16 (of_z w32 z / 65536)) (u16_bytes (of_z w32 z % 65536) (omega arith))
    (u16_bytes (of_z w32 z / 65536) (omega arith))

pub record_bytes : (kind : ℕ) (body : List ℕ) → IsU16 kind → IsU16 (length body) → IsBytes body → IsBytes (record_of kind body)
unfolding record_of
record_bytes kind body k l bytes =
    each_append IsByte (u16 (length body) ++ u16 kind) body
    (each_append IsByte (u16 (length body)) (u16 kind) (u16_bytes (length body) l) (u16_bytes kind k))
    bytes

pub numbers_bytes : (ns : List ℕ) → Each IsU16 ns → IsBytes (encode_numbers ns)
unfolding Each encode_numbers
numbers_bytes [] each = tt
numbers_bytes (n ∷ ns) each = each_append IsByte (u16 n) (encode_numbers ns) (u16_bytes n each.0) (numbers_bytes ns each.1)

pub terms_bytes : (v : ℕ) (ts : List Term) → v ≤ 20 → Each (TermWithin v) ts → IsBytes (encode_terms ts)
unfolding Each encode_terms encode_term
terms_bytes v [] few each = tt
terms_bytes v (term ∷ ts) few each =
    let below = each.0.variable_within in
    each_append IsByte (u16 term.variable ++ i32 term.weight) (encode_terms ts)
    (each_append IsByte (u16 term.variable) (i32 term.weight) (u16_bytes term.variable (omega arith))
    (i32_bytes term.weight (weight_fits term.weight each.0.weight_within)))
    (terms_bytes v ts few each.1)

module _ (v n : ℕ) (few-v : v ≤ 20) (few-n : n ≤ 64) where
  clause_bytes : (role : ℕ) (literals : List ℕ) → ClauseWithin v n role literals → IsBytes (encode_row (clause role literals))
  unfolding encode_row u16
  clause_bytes role literals within =
      let size = length_numbers literals in
      let few = within.few_literals in
      let low = within.role_within in
      record_bytes 2 (u16 role ++ encode_numbers literals) (omega arith) (omega arith)
      (each_append IsByte (u16 role) (encode_numbers literals) (u16_bytes role (omega arith))
      (numbers_bytes literals (each_map (LiteralWithin v) IsU16 (λ literal h. omega arith) literals within.literals_within)))

  linear_bytes : (role : ℕ) (bound : ℤ) (ts : List Term) → LinearWithin v n role bound ts → IsBytes (encode_row (linear role bound ts))
  unfolding encode_row i32 u32 u16
  linear_bytes role bound ts within =
      let size = length-terms ts in
      let few = within.few_terms in
      let low = within.role_within in
      record_bytes 3 (u16 role ++ i32 bound ++ encode_terms ts) (omega arith) (omega arith)
      (each_append IsByte (u16 role ++ i32 bound) (encode_terms ts)
      (each_append IsByte (u16 role) (i32 bound) (u16_bytes role (omega arith)) (i32_bytes bound within.bound_within))
      (terms_bytes v ts few-v within.terms_within))

  pub row_bytes : (r : Row) → RowWithin v n r → IsBytes (encode_row r)
  unfolding RowWithin
  row_bytes (clause role literals) within = clause_bytes role literals within
  row_bytes (linear role bound ts) within = linear_bytes role bound ts within

  pub rows_bytes : (rs : List Row) → Each (RowWithin v n) rs → IsBytes (encode_rows rs)
  unfolding Each encode_rows
  rows_bytes [] within = tt
  rows_bytes (r ∷ rs) within = each_append IsByte (encode_row r) (encode_rows rs) (row_bytes r within.0) (rows_bytes rs within.1)

  pub head_is_bytes : IsBytes (encode_head v n)
  unfolding encode_head u16
  head_is_bytes =
      record_bytes 1 (u16 v ++ u16 n) (omega arith) (omega arith)
      (each_append IsByte (u16 v) (u16 n) (u16_bytes v (omega arith)) (u16_bytes n (omega arith)))

  pub order_bytes : (order : List ℕ) → length order ≡ n → Each (IsRequest n) order → IsBytes (encode_order order)
  unfolding encode_order
  order_bytes order whole within =
      let size = length_numbers order in
      record_bytes 4 (encode_numbers order) (omega arith) (omega arith)
      (numbers_bytes order (each_map (IsRequest n) IsU16 (λ request h. omega arith) order within))

pub check_bytes : (sum : ℕ) → IsBytes (encode_check sum)
unfolding encode_check u16
check_bytes sum =
    record_bytes 5 (u16 (check_word (sum + 2 + 5))) (omega arith) (omega arith) (u16_bytes (check_word (sum + 2 + 5)) (check_small (sum + 2 + 5)))

-- the table of a model is made of bytes
pub encode_bytes : (m : Model) → WithinLimits m → IsBytes (encode m)
unfolding encode sealed before_check
encode_bytes m within =
    let v = m.variables in
    let n = m.requests in
    let few-v = within.few_variables in
    let few-n = within.few_requests in
    each_append IsByte (before_check m) (encode_check (sum_of_words (before_check m)))
    (each_append IsByte (encode_head v n ++ encode_rows m.rows) (encode_order m.order)
    (each_append IsByte (encode_head v n) (encode_rows m.rows) (head_is_bytes v n few-v few-n)
    (rows_bytes v n few-v few-n m.rows within.rows_within))
    (order_bytes v n few-v few-n m.order within.order_whole within.order_within))
    (check_bytes (sum_of_words (before_check m)))
