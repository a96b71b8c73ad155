-- The records of an accepted table are the encodings of what is decoded from them, and what is decoded is within the limits.
use Rattle.std.proofs.Common.{◌≡◌, ℕ, zero, suc, ◌+◌, ◌-◌, ◌/◌, ◌%◌, ◌≤◌, true, ◌&&◌, eqb, leb, List, ◌++◌}
use Rattle.std.proofs.Common.{length, drop, sym, refl, ap, ◌∙◌, append_assoc, arith, eqb-true, leb-true, ◌<◌, ne_eqb}
use Rattle.table.specs.Words.{u16_at, i32_at, words}
use Rattle.table.specs.Kinds.{Kind, Head, Clause, Linear, Order, Check, Unknown, kind_of, is_known, is_row}
use Rattle.table.specs.Rows.{Row, length_at, kind_at, after, row_at, row_of, clause_at, linear_at, rows, terms}
use Rattle.table.specs.Limits.{row_in_range}
use Rattle.table.specs.Tests.{length_right}
use Rattle.table.specs.Kept.{RowKept, RowsKept}
use Rattle.table.specs.Model.{Each, RowWithin}
use Rattle.table.specs.Encoding.{IsBytes, u16, u32, i32, record_of, encode_numbers, encode_terms, encode_row, encode_rows}
use Rattle.table.proofs.Steps.{both}
use Rattle.table.proofs.Accepted.{clash}
use Rattle.table.proofs.Limited.{clause_passed, linear_passed}
use Rattle.table.proofs.Sizes.{length_numbers, length-terms}
use Rattle.table.proofs.NumbersStand.{u16_stands, i32_stands, i32_is, numbers_stand, terms_stand}

-- the number of a kind
abbrev pub number_of_kind : Kind → ℕ
number_of_kind Head = 1
number_of_kind Clause = 2
number_of_kind Linear = 3
number_of_kind Order = 4
number_of_kind Check = 5
number_of_kind Unknown = 0

-- kind numbers from 6 on are unknown
above_five : (n : ℕ) → 5 < n → kind_of n ≡ Unknown
unfolding kind_of
above_five n h =
    rw (ne_eqb n 1 (omega arith), ne_eqb n 2 (omega arith), ne_eqb n 3 (omega arith), ne_eqb n 4 (omega arith), ne_eqb n 5 (omega arith))

known_number : (n : ℕ) → is_known (kind_of n) ≡ true → n ≡ number_of_kind (kind_of n)
unfolding kind_of is_known
known_number zero e = clash e
known_number (suc zero) e = refl
known_number (suc (suc zero)) e = refl
known_number (suc (suc (suc zero))) e = refl
known_number (suc (suc (suc (suc zero)))) e = refl
known_number (suc (suc (suc (suc (suc zero))))) e = refl
known_number (suc (suc (suc (suc (suc (suc n)))))) e =
    clash (rw (above_five (suc (suc (suc (suc (suc (suc n)))))) (omega arith)) at e)

-- a known kind comes from its own number alone
pub kind_number : (n : ℕ) (kind : Kind) → is_known kind ≡ true → kind_of n ≡ kind → n ≡ number_of_kind kind
kind_number n kind known e = rw (← e) (known_number n (rw e known))

-- how many numbers or terms are read
pub length-words : (k : ℕ) (t : List ℕ) (at : ℕ) → length (words k t at) ≡ k
unfolding words
length-words zero t at = refl
length-words (suc k) t at = ap suc (length-words k t (at + 2))

length_of_terms : (k : ℕ) (t : List ℕ) (at : ℕ) → length (terms k t at) ≡ k
unfolding terms
length_of_terms zero t at = refl
length_of_terms (suc k) t at = ap suc (length_of_terms k t (at + 6))

module _ (t : List ℕ) (bytes : IsBytes t) where
  -- a record is the encoding of its kind and body
  pub record_stands :
      (at kind next : ℕ) (body : List ℕ) →
      u16_at t (at + 2) ≡ kind →
      length_at t at ≡ length body →
      next ≡ at + 4 + length body →
      next ≤ length t →
      drop (at + 4) t ≡ body ++ drop next t →
      drop at t ≡ record_of kind body ++ drop next t
  unfolding record_of u16
  record_stands at kind next body k l e h stands =
      u16_stands t bytes at (at + 2) refl (omega arith)
      ∙ rw l
      (ap (λ (xs : List ℕ). u16 (length body) ++ xs)
      (u16_stands t bytes (at + 2) (at + 4) (omega arith) (omega arith) ∙ rw (k, stands)))

  -- what is known of a row of the table
  abbrev RowStands : ℕ → ℕ → ℕ → Row → Type 0
  RowStands v n at r = (drop at t ≡ encode_row r ++ drop (after t at) t) × RowWithin v n r

  clause_stands :
      (v n at : ℕ) →
      u16_at t (at + 2) ≡ 2 →
      length_right Clause n (length_at t at) ≡ true →
      after t at ≤ length t →
      row_in_range v n (clause_at t at) ≡ true →
      RowStands v n at (clause_at t at)
  unfolding length_right clause_at encode_row RowWithin u16
  clause_stands v n at k right whole is_in_range =
      let l = length_at t at in
      let low-high = both (leb 2 l && leb l 130) (eqb (l % 2) 0) right in
      let bounds = both (leb 2 l) (leb l 130) low-high.0 in
      let low = leb-true 2 l bounds.0 in
      let high = leb-true l 130 bounds.1 in
      let even = eqb-true (l % 2) 0 low-high.1 in
      let count = (l - 2) / 2 in
      let literals = words count t (at + 6) in
      let read = length-words count t (at + 6) in
      let size = length_numbers literals in
      let standing = numbers_stand t bytes count (at + 6) (after t at) (omega arith) whole in
      let role = u16_stands t bytes (at + 4) (at + 6) (omega arith) (omega arith) in (
        record_stands at 2 (after t at) (u16 (u16_at t (at + 4)) ++ encode_numbers literals) k (omega arith) (omega arith) whole
            (role ∙ ap (λ (xs : List ℕ). u16 (u16_at t (at + 4)) ++ xs) standing),
        clause_passed v n (u16_at t (at + 4)) literals (omega arith) is_in_range,
      )

  linear_stands :
      (v n at : ℕ) →
      u16_at t (at + 2) ≡ 3 →
      length_right Linear n (length_at t at) ≡ true →
      after t at ≤ length t →
      row_in_range v n (linear_at t at) ≡ true →
      RowStands v n at (linear_at t at)
  unfolding length_right linear_at encode_row RowWithin i32 u32 u16
  linear_stands v n at k right whole is_in_range =
      let l = length_at t at in
      let low-high = both (leb 6 l && leb l 126) (eqb (l % 6) 0) right in
      let bounds = both (leb 6 l) (leb l 126) low-high.0 in
      let low = leb-true 6 l bounds.0 in
      let high = leb-true l 126 bounds.1 in
      let sixths = eqb-true (l % 6) 0 low-high.1 in
      let count = (l - 6) / 6 in
      let row_terms = terms count t (at + 10) in
      let read = length_of_terms count t (at + 10) in
      let size = length-terms row_terms in
      let standing = terms_stand t bytes count (at + 10) (after t at) (omega arith) whole in
      let bound = i32_stands t bytes (at + 6) (at + 10) (omega arith) (omega arith) in
      let role = u16_stands t bytes (at + 4) (at + 6) (omega arith) (omega arith) in (
        record_stands at 3 (after t at) (u16 (u16_at t (at + 4)) ++ i32 (i32_at t (at + 6)) ++ encode_terms row_terms) k (omega arith) (omega arith) whole
            (role
            ∙ ap (λ (xs : List ℕ). u16 (u16_at t (at + 4)) ++ xs)
            (bound ∙ ap (λ (xs : List ℕ). i32 (i32_at t (at + 6)) ++ xs) standing)),
        linear_passed v n (u16_at t (at + 4)) (i32_at t (at + 6)) row_terms (i32_is t bytes (at + 6)) (omega arith) is_in_range,
      )

  row_stands_by : (v n at : ℕ) (kind : Kind) → kind_at t at ≡ kind → RowKept v n t at → RowStands v n at (row_at t at)
  unfolding is_row row_of is_known
  row_stands_by v n at Head k kept = clash (rw k at kept.row)
  row_stands_by v n at Clause k kept =
      rw k
      (clause_stands v n at (kind_number (u16_at t (at + 2)) Clause refl k) (rw k at kept.right) kept.whole (rw k at kept.is_in_range))
  row_stands_by v n at Linear k kept =
      rw k
      (linear_stands v n at (kind_number (u16_at t (at + 2)) Linear refl k) (rw k at kept.right) kept.whole (rw k at kept.is_in_range))
  row_stands_by v n at Order k kept = clash (rw k at kept.row)
  row_stands_by v n at Check k kept = clash (rw k at kept.row)
  row_stands_by v n at Unknown k kept = clash (rw k at kept.row)

  -- a row is the encoding of the row decoded from it, and that one is within the limits
  pub row_stands : (v n at : ℕ) → RowKept v n t at → RowStands v n at (row_at t at)
  row_stands v n at kept = row_stands_by v n at (kind_at t at) refl kept

  -- so are rows one after another
  pub rows_stand :
      (v n m at end : ℕ) →
      RowsKept v n t m at end →
      (drop at t ≡ encode_rows (rows m t at) ++ drop end t) × Each (RowWithin v n) (rows m t at) × (length (rows m t at) ≡ m)
  unfolding RowsKept rows encode_rows Each
  rows_stand v n zero at end kept = (ap (λ (i : ℕ). drop i t) kept, tt, refl)
  rows_stand v n (suc m) at end kept =
      let first = row_stands v n at kept.0 in
      let later = rows_stand v n m (after t at) end kept.1 in (
        first.0
            ∙ ap (λ (xs : List ℕ). encode_row (row_at t at) ++ xs) later.0
            ∙ sym (append_assoc (encode_row (row_at t at)) (encode_rows (rows m t (after t at))) (drop end t)),
        (first.1, later.1),
        ap suc later.2,
      )
