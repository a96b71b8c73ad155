-- Each record number by number, with L as document 01 gives it for its kind: what a writer writes one number after another.
use Rattle.std.proofs.Common.{◌≡◌, ℕ, ◌+◌, ◌*◌, ◌/◌, ◌%◌, ◌<◌, List, [], ◌∷◌, ◌++◌, length, ℤ, refl, ap, ◌∙◌, mod-eq_of_lt, arith}
use Rattle.std.proofs.Math.Nat.{add-mul-mod_self_left, add-mul-div_left, div-div-eq-div-mul}
use Rattle.table.specs.Rows.{Term, clause, linear}
use Rattle.table.specs.Encoding.{u16, u32, i32, record_of, encode_numbers, encode_terms, encode_row, encode_head, encode_order, check_word, encode_check}
use Rattle.table.proofs.Sizes.{length_numbers, length-terms}

-- HEAD: L = 4
pub head_numbers : (variables requests : ℕ) → encode_head variables requests ≡ u16 4 ++ u16 1 ++ u16 variables ++ u16 requests
unfolding encode_head record_of u16
head_numbers variables requests = refl

-- CLAUSE: L = 2 and two for each literal
pub clause_numbers :
    (role : ℕ) (literals : List ℕ) →
    encode_row (clause role literals) ≡ u16 (2 + 2 * length literals) ++ u16 2 ++ u16 role ++ encode_numbers literals
unfolding encode_row record_of u16
clause_numbers role literals =
    let l : 2 + 2 * length literals ≡ length (u16 role ++ encode_numbers literals) = omega (arith, length_numbers literals) in rw l

-- LINEAR: L = 6 + 6t
pub linear_numbers :
    (role : ℕ) (bound : ℤ) (ts : List Term) →
    encode_row (linear role bound ts) ≡ u16 (6 + 6 * length ts) ++ u16 3 ++ u16 role ++ i32 bound ++ encode_terms ts
unfolding encode_row record_of i32 u32 u16
linear_numbers role bound ts =
    let l : 6 + 6 * length ts ≡ length (u16 role ++ i32 bound ++ encode_terms ts) = omega (arith, length-terms ts) in rw l

-- ORDER: L = 2N
pub order_numbers : (order : List ℕ) → encode_order order ≡ u16 (2 * length order) ++ u16 4 ++ encode_numbers order
unfolding encode_order record_of
order_numbers order = rw (length_numbers order)

-- CHECK: L = 2
pub check_numbers : (sum : ℕ) → encode_check sum ≡ u16 2 ++ u16 5 ++ u16 (check_word (sum + 2 + 5))
unfolding encode_check record_of u16
check_numbers sum = refl

-- a u32 byte by byte
pub u32_bytes : (n : ℕ) → u32 n ≡ n % 256 ∷ n / 256 % 256 ∷ n / 65536 % 256 ∷ n / 16777216 ∷ []
unfolding u32 u16
u32_bytes n =
    let low = n % 65536 in
    let split : n ≡ low + 256 * (256 * (n / 65536)) = omega arith in
    let first : n % 256 ≡ low % 256 = ap (λ (x : ℕ). x % 256) split ∙ add-mul-mod_self_left low 256 (256 * (n / 65536)) in
    let high : n / 256 ≡ low / 256 + 256 * (n / 65536) =
    ap (λ (x : ℕ). x / 256) split ∙ add-mul-div_left low (256 * (n / 65536)) (omega arith)
    in
    let small : low / 256 < 256 = omega arith in
    let second : n / 256 % 256 ≡ low / 256 =
    ap (λ (x : ℕ). x % 256) high ∙ add-mul-mod_self_left (low / 256) 256 (n / 65536) ∙ mod-eq_of_lt small
    in
    let fourth = div-div-eq-div-mul n 65536 256 in
    rw (first, second, ← fourth)
