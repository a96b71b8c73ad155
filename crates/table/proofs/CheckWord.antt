-- The CHECK word: what the words of an encoding add up to, that CHECK makes it zero, and that only its word does.
use Rattle.std.proofs.Common.{◌≡◌, ℕ, ◌+◌, ◌*◌, ◌/◌, ◌%◌, ◌^◌, ◌<◌, ◌≤◌, List, [], ◌∷◌, ◌++◌, length, take, drop}
use Rattle.std.proofs.Common.{ℤ, sym, refl, append-nil, arith, length-append, take-append-drop, length-take-le}
use Rattle.table.specs.Words.{words, total}
use Rattle.table.specs.Rows.{Term, Row, clause, linear}
use Rattle.table.specs.Model.{Model}
use Rattle.table.specs.Encoding.{u16, u32, i32, record_of, encode_numbers, encode_terms, encode_row, encode_rows, encode_head}
use Rattle.table.specs.Encoding.{encode_order, before_check, sum_of_words, check_word, encode_check, sealed, encode}
use Rattle.table.proofs.Standing.{sum_read}
use Rattle.table.proofs.Sizes.{rows_even, row_appended, length_numbers, length-terms, length_head, before_check_even}

-- whole words add up one after another
pub sum-append : (xs ys : List ℕ) → length xs % 2 ≡ 0 → sum_of_words (xs ++ ys) ≡ sum_of_words xs + sum_of_words ys
unfolding sum_of_words
sum-append [] ys e = omega arith
sum-append (x ∷ []) ys e = absurd (omega arith)
sum-append (x ∷ y ∷ xs) ys e = let h = sum-append xs ys (omega arith) in omega arith

-- a u16 is its own word
pub sum-u16 : (n : ℕ) (rest : List ℕ) → sum_of_words (u16 n ++ rest) ≡ n + sum_of_words rest
unfolding sum_of_words u16
sum-u16 n rest = omega arith

-- a record's length and kind are words too
pub sum-record : (kind : ℕ) (body : List ℕ) → sum_of_words (record_of kind body) ≡ length body + kind + sum_of_words body
unfolding record_of sum_of_words u16
sum-record kind body = omega arith

pub sum_numbers : (ns : List ℕ) → sum_of_words (encode_numbers ns) ≡ total ns
unfolding encode_numbers total sum_of_words
sum_numbers [] = refl
sum_numbers (n ∷ ns) = let h = sum_numbers ns in let g = sum-u16 n (encode_numbers ns) in omega arith

pub sum_head : (variables requests : ℕ) → sum_of_words (encode_head variables requests) ≡ 5 + variables + requests
unfolding encode_head record_of sum_of_words u16
sum_head variables requests = omega arith

pub sum-clause : (role : ℕ) (literals : List ℕ) → sum_of_words (encode_row (clause role literals)) ≡ 4 + 2 * length literals + role + total literals
unfolding encode_row record_of sum_of_words u16
sum-clause role literals = let h = sum_numbers literals in let g = length_numbers literals in omega arith

pub sum-linear :
    (role : ℕ) (bound : ℤ) (ts : List Term) →
    sum_of_words (encode_row (linear role bound ts)) ≡ 9 + 6 * length ts + role + sum_of_words (i32 bound) + sum_of_words (encode_terms ts)
unfolding encode_row record_of sum_of_words i32 u32 u16
sum-linear role bound ts = let h = length-terms ts in omega arith

pub sum_order : (order : List ℕ) → sum_of_words (encode_order order) ≡ 4 + 2 * length order + total order
unfolding encode_order
sum_order order =
    let h = sum-record 4 (encode_numbers order) in let g = sum_numbers order in let k = length_numbers order in omega arith

-- one row more adds its own words
pub sum_row_appended : (rs : List Row) (r : Row) → sum_of_words (encode_rows (rs ++ (r ∷ []))) ≡ sum_of_words (encode_rows rs) + sum_of_words (encode_row r)
sum_row_appended rs r = rw (row_appended rs r) (sum-append (encode_rows rs) (encode_row r) (rows_even rs))

-- the words before CHECK: those of HEAD, of the rows and of ORDER
pub sum_before_check :
    (m : Model) →
    sum_of_words (before_check m)
    ≡ sum_of_words (encode_head m.variables m.requests) + sum_of_words (encode_rows m.rows) + sum_of_words (encode_order m.order)
unfolding before_check
sum_before_check m =
    let head = encode_head m.variables m.requests in
    let g = length_head m.variables m.requests in
    let r = rows_even m.rows in
    let h = sum-append head (encode_rows m.rows) (omega arith) in
    let k = sum-append (head ++ encode_rows m.rows) (encode_order m.order) (simp length-append (omega arith)) in
    omega arith

-- the first k words of a table add up to the sum of its first 2k bytes
pub sum_of_first_words : (k : ℕ) (t : List ℕ) → 2 * k ≤ length t → total (words k t 0) ≡ sum_of_words (take (2 * k) t)
sum_of_first_words k t h =
    sum_read k t 0 (take (2 * k) t) (drop (2 * k) t) (length-take-le (2 * k) t h) (sym (take-append-drop (2 * k) t))

-- all words of a table add up to the sum of its bytes
pub sum_of_all_words : (t : List ℕ) → length t % 2 ≡ 0 → total (words (length t / 2) t 0) ≡ sum_of_words t
sum_of_all_words t even = sum_read (length t / 2) t 0 t [] (omega arith) (sym (append-nil t))

module _ (sum : ℕ) where
  -- the CHECK word makes the sum zero
  pub check_adds : (sum + check_word sum) % 65536 ≡ 0
  unfolding check_word
  check_adds = omega arith

  -- it is a u16
  pub check_small : check_word sum < 65536
  unfolding check_word
  check_small = omega arith

  -- no other u16 does
  pub check_only : (word : ℕ) → word < 65536 → (sum + word) % 65536 ≡ 0 → word ≡ check_word sum
  unfolding check_word
  check_only word h e = omega arith

  -- carries may be thrown away at any time
  pub check_carries : check_word (sum % 65536) ≡ check_word sum
  unfolding check_word
  check_carries = omega arith

-- what a table's words add up to with a word of CHECK after its records
pub sum_with_check :
    (records : List ℕ) (word : ℕ) → length records % 2 ≡ 0 → sum_of_words (records ++ record_of 5 (u16 word)) ≡ sum_of_words records + 7 + word
unfolding record_of sum_of_words u16
sum_with_check records word even = let h = sum-append records (record_of 5 (u16 word)) even in omega arith

-- so the words of a sealed run of records add to zero
pub sealed_adds : (records : List ℕ) → length records % 2 ≡ 0 → sum_of_words (sealed records) % 65536 ≡ 0
unfolding sealed encode_check
sealed_adds records even =
    let h = sum_with_check records (check_word (sum_of_words records + 2 + 5)) even in
    let g = check_adds (sum_of_words records + 2 + 5) in
    omega arith

pub encode_adds : (m : Model) → sum_of_words (encode m) % 65536 ≡ 0
unfolding encode
encode_adds m = sealed_adds (before_check m) (before_check_even m)

-- a writer's way to the CHECK word: the sum of the words of the k words written so far, carries thrown away, is all that it needs
pub check_by_sum :
    (records t rest : List ℕ) (k sum : ℕ) →
    length records ≡ 2 * k →
    t ≡ records ++ rest →
    sum ≡ total (words k t 0) % 2 ^ 16 →
    check_word (sum + 2 + 5) ≡ check_word (sum_of_words records + 2 + 5)
unfolding check_word
check_by_sum records t rest k sum size e f = let h = sum_read k t 0 records rest size e in omega arith
