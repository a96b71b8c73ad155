-- The walk over the rows of a table: one step, and its end.
use Rattle.std.proofs.Common.{◌≡◌, ℕ, zero, suc, ◌+◌, ◌-◌, ◌≤◌, List, [], ◌∷◌, length, refl, ap, arith, All}
use Rattle.std.proofs.lemmas.List.Elements.{All-nil, All-cons}
use Rattle.table.specs.declared.record.Frame.{Frame}
use Rattle.table.specs.Words.{u16_at}
use Rattle.table.specs.Rows.{after}
use Rattle.table.specs.Kept.{RowKept, RowsKept}
use Rattle.meaning.proofs.OneRow.{row_long}
use Rattle.question.specs.RowPlaces.{row_places, RowsLeft}

-- no row is left
pub walk_done : {left : ℕ} (t : List ℕ) (at : ℕ) → left ≡ 0 → row_places left t at ≡ []
unfolding row_places
walk_done t at e = rw e refl

-- a row is left: it is whole, and so are those behind it
both_kept :
    (v n left : ℕ) (t : List ℕ) (at end : ℕ) → (left ≡ 0 → ⊥) → RowsKept v n t left at end → RowKept v n t at × RowsKept v n t (left - 1) (after t at) end
unfolding RowsKept
both_kept v n zero t at end some kept = absurd (some refl)
both_kept v n (suc left) t at end some kept = let e : suc left - 1 ≡ left = omega arith in (kept.0, rw e kept.1)

both_places : (left : ℕ) (t : List ℕ) (at : ℕ) → (left ≡ 0 → ⊥) → row_places left t at ≡ at ∷ row_places (left - 1) t (after t at)
unfolding row_places
both_places zero t at some = absurd (some refl)
both_places (suc left) t at some = let e : suc left - 1 ≡ left = omega arith in rw e refl

module _ {f : Frame} {t : List ℕ} {left at : ℕ} (rows : RowsLeft f t left at) (some : left ≡ 0 → ⊥) where
  both : RowKept f.variables f.requests t at × RowsKept f.variables f.requests t (left - 1) (after t at) f.order
  both = both_kept f.variables f.requests left t at f.order some rows.kept

  pub stands_here : (at + 6 ≤ length t) × (at + 4 + u16_at t at ≤ length t)
  stands_here =
      let long = row_long f.variables f.requests t at both.0 in
      (omega (arith, both.0.whole), omega (arith, both.0.whole))

  pub others_left : {next : ℕ} → next ≡ after t at → RowsLeft f t (left - 1) next
  others_left e = record { kept = rw e both.1 }

  pub first_place : {next : ℕ} → next ≡ after t at → row_places left t at ≡ at ∷ row_places (left - 1) t next
  first_place e = rw e (both_places left t at some)

-- there are as many places as rows
pub length-row_places : (m : ℕ) (t : List ℕ) (at : ℕ) → length (row_places m t at) ≡ m
unfolding row_places
length-row_places zero t at = refl
length-row_places (suc m) t at = ap suc (length-row_places m t (after t at))

-- and the row at each is whole and in range
pub each_kept : {v n : ℕ} {t : List ℕ} (m at end : ℕ) → RowsKept v n t m at end → All (RowKept v n t) (row_places m t at)
unfolding row_places RowsKept
each_kept {v = v} {n = n} {t = t} zero at end kept = All-nil (RowKept v n t)
each_kept {v = v} {n = n} {t = t} (suc m) at end kept =
    All-cons (RowKept v n t) at (row_places m t (after t at)) kept.0 (each_kept {v = v} {n = n} {t = t} m (after t at) end kept.1)
