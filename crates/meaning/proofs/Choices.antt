-- How answers to different selections hang together.
use Rattle.std.proofs.Common.{ℕ, zero, suc, ◌<◌, ◌≤◌, ◌≡◌, refl, ap, Bool, true, false, cond, ◌||◌, List, [], arith, eqb}
use mathlib.Core.Path.{fun_ext}
use mathlib.Core.List.Memᴰ
use mathlib.Core.List.{Memᴰ}
use Rattle.table.specs.declared.record.Frame.{Frame}
use Rattle.table.specs.Rows.{Row, rows, after}
use Rattle.table.specs.Kept.{Kept, RowsKept, rows_of, first_row}
use Rattle.meaning.specs.Meaning.{Setting, meets, role_of, counts, respects, meets_all}
use Rattle.meaning.specs.Stands.{some_setting, stands, adding, has_rows}
use Rattle.meaning.proofs.Tested.{every_more, every_same, either_more, any_member}
use Rattle.meaning.proofs.OneRow.{row_role, role_at}
use Rattle.meaning.proofs.Standing.{meets_stands, stands_meets}

fewer_counted : (a b met : Bool) → (a ≡ true → b ≡ true) → cond b met true ≡ true → cond a met true ≡ true
fewer_counted true b met h e = rw (h refl) at e
fewer_counted false b met h e = refl

fewer_respected :
    (few many : ℕ → Bool) → ((role : ℕ) → few role ≡ true → many role ≡ true) →
    (setting : Setting) (row : Row) → respects many setting row ≡ true → respects few setting row ≡ true
unfolding respects counts
fewer_respected few many more setting row e =
    fewer_counted (counts few (role_of row)) (counts many (role_of row)) (meets setting row)
    (either_more (eqb (role_of row) 0) (few (role_of row)) (eqb (role_of row) 0) (many (role_of row)) (λ host. host) (more (role_of row)))
    e

-- fewer chosen requests stand where more do
pub fewer_stand :
    (rows : List Row) (v : ℕ) (few many : ℕ → Bool) →
    ((role : ℕ) → few role ≡ true → many role ≡ true) →
    stands rows v many ≡ true →
    stands rows v few ≡ true
unfolding meets_all
fewer_stand rows v few many more e =
    let s = stands_meets rows v many e in
    meets_stands rows v few _ s.each (every_more (respects many _) (respects few _) (fewer_respected few many more _) rows s.passes)

-- the roles of an accepted table's rows are in range
pub roles_kept :
    (v n : ℕ) (t : List ℕ) (m at end : ℕ) → RowsKept v n t m at end → (row : Row) → Memᴰ row (rows m t at) → role_of row ≤ n
unfolding RowsKept rows
roles_kept v n t zero at end kept row m = absurd (Memᴰ.not-nil m)
roles_kept v n t (suc k) at end kept row (Memᴰ.head e) = rw (e, role_at v n t at kept.0) (row_role v n t at kept.0)
roles_kept v n t (suc k) at end kept row (Memᴰ.tail m) = roles_kept v n t k (after t at) end kept.1 row m

module _ (one other : ℕ → Bool) where
  same_counts : (role : ℕ) → (0 < role → one role ≡ other role) → counts one role ≡ counts other role
  unfolding counts
  same_counts zero h = refl
  same_counts (suc role) h = rw (h (omega arith))

  -- selections that agree on the requests that have rows have one answer
  pub same_on_rows :
      (rows : List Row) (v : ℕ) →
      ((row : Row) → Memᴰ row rows → 0 < role_of row → one (role_of row) ≡ other (role_of row)) →
      stands rows v one ≡ stands rows v other
  unfolding stands meets_all respects
  same_on_rows rows v h =
      ap (λ (test : Setting → Bool). some_setting v [] test)
      (fun_ext (λ setting. every_same (respects one setting) (respects other setting) rows
      (λ row m. ap (λ (counting : Bool). cond counting (meets setting row) true) (same_counts (role_of row) (h row m)))))

  -- equal selections have one answer
  pub same_choice : (rows : List Row) (v : ℕ) → ((role : ℕ) → one role ≡ other role) → stands rows v one ≡ stands rows v other
  same_choice rows v h = same_on_rows rows v (λ row m more. h (role_of row))

  -- of an accepted table the requests 1 to N alone matter
  pub same_on_table :
      (t : List ℕ) (f : Frame) →
      Kept t f →
      ((role : ℕ) → 0 < role → role ≤ f.requests → one role ≡ other role) →
      stands (rows_of t f) f.variables one ≡ stands (rows_of t f) f.variables other
  same_on_table t f kept h =
      same_on_rows (rows_of t f) f.variables
      (λ row m more. h (role_of row) more (roles_kept f.variables f.requests t f.rows first_row f.order kept.rows_kept row m))

-- a request without rows always holds: to add it changes nothing
pub without_rows :
    (rows : List Row) (v request : ℕ) (chosen : ℕ → Bool) → has_rows request rows ≡ false → stands rows v (adding request chosen) ≡ stands rows v chosen
unfolding has_rows adding
without_rows rows v request chosen none =
    same_on_rows (adding request chosen) chosen rows v
    (λ row m more. ap (λ (named : Bool). named || chosen (role_of row)) (any_member (λ (r : Row). eqb (role_of r) request) row rows none m))
