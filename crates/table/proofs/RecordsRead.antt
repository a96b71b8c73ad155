-- Encoded records, read back: where a record of an encoding stands at a place, the reading finds it whole, of that kind and length, and decodes what was
-- encoded.
use Rattle.std.proofs.Common.{◌≡◌, ℕ, ◌+◌, ◌-◌, ◌*◌, ◌/◌, ◌%◌, true, List, [], ◌∷◌, ◌++◌, length}
use Rattle.std.proofs.Common.{drop, ℤ, refl, ap, append_assoc, add-zero, arith, length-append}
use Rattle.table.specs.Words.{u16_at}
use Rattle.table.specs.Kinds.{Kind, Clause, Linear, kind_of, is_row}
use Rattle.table.specs.Rows.{Term, Row, clause, linear, length_at, kind_at, after, row_at, row_of, clause_at, linear_at, rows}
use Rattle.table.specs.Tests.{length_right}
use Rattle.table.specs.Kept.{RowKept, RowsKept}
use Rattle.table.specs.Model.{Each, ClauseWithin, LinearWithin, RowWithin}
use Rattle.table.specs.Encoding.{u16, i32, u32, record_of, encode_numbers, encode_terms, encode_row, encode_rows}
use Rattle.table.proofs.RowRule.{clause_right, linear_right}
use Rattle.table.proofs.Standing.{past, within_table, u16_read, past_u16, i32_read, past_i32, numbers_read, terms_read}
use Rattle.table.proofs.Limited.{row_passes}
use Rattle.table.proofs.Sizes.{length_numbers, length-terms, length-clause, length-linear}

-- what the reading finds where a record stands
pub record RecordRead (t : List ℕ) (at kind : ℕ) (body rest : List ℕ) : Type 0 where
  pub length_read : length_at t at ≡ length body
  pub kind_read : u16_at t (at + 2) ≡ kind
  pub body_read : drop (at + 4) t ≡ body ++ rest
  pub rest_read : drop (after t at) t ≡ rest
  pub fits : after t at + length rest ≡ length t

pub record_read :
    (t : List ℕ) (at kind : ℕ) (body rest : List ℕ) → drop at t ≡ record_of kind body ++ rest → RecordRead t at kind body rest
unfolding record_of u16
record_read t at kind body rest h =
    let l = u16_read t at (length body) (u16 kind ++ (body ++ rest)) h in
    let h2 = past_u16 t at (length body) (u16 kind ++ (body ++ rest)) (at + 2) refl h in
    let h4 = past_u16 t (at + 2) kind (body ++ rest) (at + 4) (omega arith) h2 in
    let size = within_table t at (length body % 256) (length body / 256 ∷ u16 kind ++ (body ++ rest)) h in
    let both = length-append body rest in
    record {
      length_read = l;
      kind_read = u16_read t (at + 2) kind (body ++ rest) h2;
      body_read = h4;
      rest_read = past t (at + 4) body rest (after t at) (omega arith) h4;
      fits = omega arith;
    }

-- what it finds where a row stands
pub record RowRead (v n : ℕ) (t : List ℕ) (at : ℕ) (r : Row) (rest : List ℕ) : Type 0 where
  pub kept : RowKept v n t at
  pub same : row_at t at ≡ r
  pub next : after t at ≡ at + length (encode_row r)
  pub rest_read : drop (after t at) t ≡ rest

module _ (v n : ℕ) (t : List ℕ) (at : ℕ) (rest : List ℕ) where
  -- a row whose kind, length and content are read
  row_by :
      (r : Row) (kind : Kind) (l : ℕ) →
      kind_at t at ≡ kind →
      length_at t at ≡ l →
      is_row kind ≡ true →
      length_right kind n l ≡ true →
      row_of kind t at ≡ r →
      length (encode_row r) ≡ 4 + l →
      RowWithin v n r →
      after t at + length rest ≡ length t →
      drop (after t at) t ≡ rest →
      RowRead v n t at r rest
  row_by r kind l k e row right content size within fits after-it =
      let same : row_at t at ≡ r = rw k content in
      record {
        kept = record { whole = omega arith; row = rw k row; right = rw (k, e) right; is_in_range = rw same (row_passes v n r within) };
        same = same;
        next = omega arith;
        rest_read = after-it;
      }

  clause_read :
      (role : ℕ) (literals : List ℕ) →
      ClauseWithin v n role literals →
      drop at t ≡ encode_row (clause role literals) ++ rest →
      RowRead v n t at (clause role literals) rest
  unfolding encode_row RowWithin kind_of is_row row_of clause_at u16
  clause_read role literals within h =
      let p = record_read t at 2 (u16 role ++ encode_numbers literals) rest h in
      let l = p.length_read in
      let size = length_numbers literals in
      let few = within.few_literals in
      let role-is = u16_read t (at + 4) role (encode_numbers literals ++ rest) p.body_read in
      let h6 = past_u16 t (at + 4) role (encode_numbers literals ++ rest) (at + 6) (omega arith) p.body_read in
      let count : (length_at t at - 2) / 2 ≡ length literals = omega arith in
      row_by (clause role literals) Clause (2 + 2 * length literals) (ap kind_of p.kind_read) (omega arith) refl
      (clause_right n (2 + 2 * length literals) (omega arith) (omega arith) (omega arith))
      (rw (role-is, count, numbers_read t literals (at + 6) rest h6))
      (let e = length-clause role literals in omega arith)
      within
      p.fits
      p.rest_read

  linear_read :
      (role : ℕ) (bound : ℤ) (ts : List Term) →
      LinearWithin v n role bound ts →
      drop at t ≡ encode_row (linear role bound ts) ++ rest →
      RowRead v n t at (linear role bound ts) rest
  unfolding encode_row RowWithin kind_of is_row row_of linear_at i32 u32 u16
  linear_read role bound ts within h =
      let p = record_read t at 3 (u16 role ++ i32 bound ++ encode_terms ts) rest h in
      let l = p.length_read in
      let size = length-terms ts in
      let few = within.few_terms in
      let role-is = u16_read t (at + 4) role (i32 bound ++ (encode_terms ts ++ rest)) p.body_read in
      let h6 = past_u16 t (at + 4) role (i32 bound ++ (encode_terms ts ++ rest)) (at + 6) (omega arith) p.body_read in
      let bound-is = i32_read t (at + 6) bound (encode_terms ts ++ rest) within.bound_within h6 in
      let h10 = past_i32 t (at + 6) bound (encode_terms ts ++ rest) (at + 10) (omega arith) h6 in
      let count : (length_at t at - 6) / 6 ≡ length ts = omega arith in
      row_by (linear role bound ts) Linear (6 + 6 * length ts) (ap kind_of p.kind_read) (omega arith) refl
      (linear_right n (6 + 6 * length ts) (omega arith) (omega arith) (omega arith))
      (rw (role-is, bound-is, count, terms_read v t ts (at + 10) rest within.terms_within h10))
      (let e = length-linear role bound ts in omega arith)
      within
      p.fits
      p.rest_read

  pub row_read : (r : Row) → RowWithin v n r → drop at t ≡ encode_row r ++ rest → RowRead v n t at r rest
  unfolding RowWithin
  row_read (clause role literals) within h = clause_read role literals within h
  row_read (linear role bound ts) within h = linear_read role bound ts within h

-- rows, one after another
pub rows_read :
    (v n : ℕ) (t : List ℕ) (rest : List ℕ) (rs : List Row) (at end : ℕ) →
    end ≡ at + length (encode_rows rs) →
    Each (RowWithin v n) rs →
    drop at t ≡ encode_rows rs ++ rest →
    RowsKept v n t (length rs) at end × (rows (length rs) t at ≡ rs) × (drop end t ≡ rest)
unfolding RowsKept rows encode_rows Each
rows_read v n t rest [] at end e within h = (omega arith, refl, rw (e, add-zero) h)
rows_read v n t rest (r ∷ rs) at end e within h =
    let p = row_read v n t at (encode_rows rs ++ rest) r within.0 (rw append_assoc at h) in
    let size = length-append (encode_row r) (encode_rows rs) in
    let next = p.next in
    let later = rows_read v n t rest rs (after t at) end (omega arith) within.1 p.rest_read in
    ((p.kept, later.0), rw (p.same, later.1), later.2)
