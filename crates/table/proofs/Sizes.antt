-- How many bytes an encoding has, and what appending a number, a term or a row does to it: laws for those who write tables.
use Rattle.std.proofs.Common.{◌≡◌, ℕ, ◌+◌, ◌*◌, ◌%◌, ◌≤◌, List, [], ◌∷◌, ◌++◌, length, ℤ, sym, refl, ap, ◌∙◌, append_assoc, append-nil, arith, length-append}
use Rattle.table.specs.Rows.{Term, Row, clause, linear}
use Rattle.table.specs.Model.{Model, Each, RowWithin, WithinLimits}
use Rattle.table.specs.Encoding.{u16, u32, i32, record_of, encode_numbers, encode_term, encode_terms, encode_row, encode_rows}
use Rattle.table.specs.Encoding.{encode_head, encode_order, before_check, sum_of_words, encode_check, sealed, encode}

pub length-u16 : (n : ℕ) → length (u16 n) ≡ 2
unfolding u16
length-u16 n = refl

pub length-i32 : (z : ℤ) → length (i32 z) ≡ 4
unfolding i32 u32 u16
length-i32 z = refl

-- a record has four bytes more than its body
pub length-record : (kind : ℕ) (body : List ℕ) → length (record_of kind body) ≡ 4 + length body
unfolding record_of u16
length-record kind body = omega arith

-- numbers have two bytes each
pub length_numbers : (ns : List ℕ) → length (encode_numbers ns) ≡ 2 * length ns
unfolding encode_numbers u16
length_numbers [] = refl
length_numbers (n ∷ ns) = let h = length_numbers ns in omega arith

-- terms have six bytes each
pub length-terms : (ts : List Term) → length (encode_terms ts) ≡ 6 * length ts
unfolding encode_terms encode_term i32 u32 u16
length-terms [] = refl
length-terms (term ∷ ts) = let h = length-terms ts in omega arith

-- a clause: four bytes of record, the role, two for each literal
pub length-clause : (role : ℕ) (literals : List ℕ) → length (encode_row (clause role literals)) ≡ 6 + 2 * length literals
unfolding encode_row record_of u16
length-clause role literals = let h = length_numbers literals in omega arith

-- a linear row: four bytes of record, the role, the bound, six for each term
pub length-linear : (role : ℕ) (bound : ℤ) (ts : List Term) → length (encode_row (linear role bound ts)) ≡ 10 + 6 * length ts
unfolding encode_row record_of i32 u32 u16
length-linear role bound ts = let h = length-terms ts in omega arith

pub length_head : (variables requests : ℕ) → length (encode_head variables requests) ≡ 8
unfolding encode_head record_of u16
length_head variables requests = refl

pub length_order : (order : List ℕ) → length (encode_order order) ≡ 4 + 2 * length order
unfolding encode_order record_of u16
length_order order = let h = length_numbers order in omega arith

pub length_check : (sum : ℕ) → length (encode_check sum) ≡ 6
unfolding encode_check record_of u16
length_check sum = refl

-- all that stands before CHECK: HEAD, rows, ORDER
pub length_before_check : (m : Model) → length (before_check m) ≡ 12 + length (encode_rows m.rows) + 2 * length m.order
unfolding before_check
length_before_check m =
    simp (length-append, length_head, length_order) (omega arith)

-- the whole table: CHECK has six bytes
pub length-sealed : (records : List ℕ) → length (sealed records) ≡ length records + 6
unfolding sealed
length-sealed records = simp (length-append, length_check)

pub length-encode : (m : Model) → length (encode m) ≡ 18 + length (encode_rows m.rows) + 2 * length m.order
unfolding encode
length-encode m = let h = length_before_check m in let g = length-sealed (before_check m) in omega arith

-- the whole table, record by record
pub encode_records :
    (m : Model) →
    encode m
    ≡ encode_head m.variables m.requests
    ++ (encode_rows m.rows ++ (encode_order m.order ++ encode_check (sum_of_words (before_check m))))
unfolding encode sealed before_check
encode_records m = simp append_assoc

-- a row within the limits has at most 134 bytes
pub length_row_at_most : (v n : ℕ) (r : Row) → RowWithin v n r → length (encode_row r) ≤ 134
unfolding RowWithin
length_row_at_most v n (clause role literals) within = omega (arith, length-clause role literals, within.few_literals)
length_row_at_most v n (linear role bound ts) within = omega (arith, length-linear role bound ts, within.few_terms)

pub length_rows_at_most : (v n : ℕ) (rs : List Row) → Each (RowWithin v n) rs → length (encode_rows rs) ≤ 134 * length rs
unfolding encode_rows Each
length_rows_at_most v n [] within = omega arith
length_rows_at_most v n (r ∷ rs) within =
    let h = length_row_at_most v n r within.0 in
    let g = length_rows_at_most v n rs within.1 in
    simp length-append (omega arith)

-- so up to 243 rows always fit a table
pub few_rows_fit : (m : Model) → WithinLimits m → length m.rows ≤ 243 → length (encode m) ≤ 32768
few_rows_fit m within few =
    let size = length-encode m in
    let most = length_rows_at_most m.variables m.requests m.rows within.rows_within in
    let whole = within.order_whole in
    let requests = within.few_requests in
    omega arith

-- appended numbers
pub numbers_append : (ns more : List ℕ) → encode_numbers (ns ++ more) ≡ encode_numbers ns ++ encode_numbers more
unfolding encode_numbers u16
numbers_append [] more = refl
numbers_append (n ∷ ns) more = rw (numbers_append ns more)

-- appended terms
pub terms-append : (ts more : List Term) → encode_terms (ts ++ more) ≡ encode_terms ts ++ encode_terms more
unfolding encode_terms encode_term i32 u32 u16
terms-append [] more = refl
terms-append (term ∷ ts) more = rw (terms-append ts more)

-- appended rows
pub rows_append : (rs more : List Row) → encode_rows (rs ++ more) ≡ encode_rows rs ++ encode_rows more
unfolding encode_rows
rows_append [] more = refl
rows_append (r ∷ rs) more = rw (rows_append rs more) (sym (append_assoc (encode_row r) (encode_rows rs) (encode_rows more)))

-- one number, term or row more
pub number_appended : (ns : List ℕ) (n : ℕ) → encode_numbers (ns ++ (n ∷ [])) ≡ encode_numbers ns ++ u16 n
unfolding encode_numbers
number_appended ns n = numbers_append ns (n ∷ []) ∙ ap (λ l. encode_numbers ns ++ l) (append-nil (u16 n))

pub term_appended : (ts : List Term) (term : Term) → encode_terms (ts ++ (term ∷ [])) ≡ encode_terms ts ++ encode_term term
unfolding encode_terms
term_appended ts term = terms-append ts (term ∷ []) ∙ ap (λ l. encode_terms ts ++ l) (append-nil (encode_term term))

pub row_appended : (rs : List Row) (r : Row) → encode_rows (rs ++ (r ∷ [])) ≡ encode_rows rs ++ encode_row r
unfolding encode_rows
row_appended rs r = rows_append rs (r ∷ []) ∙ ap (λ l. encode_rows rs ++ l) (append-nil (encode_row r))

-- a row, rows and all that stands before CHECK are whole words
pub row_even : (r : Row) → length (encode_row r) % 2 ≡ 0
row_even (clause role literals) = let h = length-clause role literals in omega arith
row_even (linear role bound ts) = let h = length-linear role bound ts in omega arith

pub rows_even : (rs : List Row) → length (encode_rows rs) % 2 ≡ 0
unfolding encode_rows
rows_even [] = refl
rows_even (r ∷ rs) = let h = row_even r in let g = rows_even rs in simp length-append (omega arith)

pub before_check_even : (m : Model) → length (before_check m) % 2 ≡ 0
before_check_even m = let h = length_before_check m in let g = rows_even m.rows in omega arith
