-- The two orders of document 004 (Definitions 3 and 6): two selections that are not equal differ first, and last, at some request.
-- So a preferred relaxation is unique and maximal, and a preferred conflict is unique and minimal (the remarks after Definitions 5 and 8).
use Rattle.std.proofs.Common.{◌≡◌, refl, sym, ap, ◌∙◌, Bool, true, false, [], ◌∷◌, ℕ, zero, suc, arith, length}
use Rattle.preference.specs.Selection.{Selection, ◌⊆◌, ends, same, more}
use Rattle.preference.specs.Question.{Question}
use Rattle.preference.specs.Preference.{LexBefore, AntilexBefore, PreferredRelaxation, PreferredConflict, Maximal, Minimal}
use Rattle.preference.proofs.Selections.{subset-length}

lex_here : (X Y : Selection) → LexBefore (true ∷ X) (false ∷ Y)
lex_here X Y = record { place = zero; above = refl; chosen = refl; left_out = refl }

lex_later : (b : Bool) {X Y : Selection} → LexBefore X Y → LexBefore (b ∷ X) (b ∷ Y)
lex_later b l =
    record { place = suc l.place; above = ap {B = Selection} (λ Z. b ∷ Z) l.above; chosen = l.chosen; left_out = l.left_out }

antilex_here : {X Y : Selection} → X ≡ Y → AntilexBefore (false ∷ X) (true ∷ Y)
antilex_here e = record { place = zero; below = e; left_out = refl; chosen = refl }

pub antilex_later : (a b : Bool) {X Y : Selection} → AntilexBefore X Y → AntilexBefore (a ∷ X) (b ∷ Y)
antilex_later a b l = record { place = suc l.place; below = l.below; left_out = l.left_out; chosen = l.chosen }

pub lex_total : (X Y : Selection) → length X ≡ length Y → (LexBefore X Y → ⊥) → (LexBefore Y X → ⊥) → X ≡ Y
lex_total [] [] e f g = refl
lex_total [] (y ∷ Y) e f g = absurd (omega arith)
lex_total (x ∷ X) [] e f g = absurd (omega arith)
lex_total (true ∷ X) (true ∷ Y) e f g =
    ap {B = Selection} (λ Z. true ∷ Z) (lex_total X Y (omega arith) (λ l. f (lex_later true l)) (λ l. g (lex_later true l)))
lex_total (false ∷ X) (false ∷ Y) e f g =
    ap {B = Selection} (λ Z. false ∷ Z) (lex_total X Y (omega arith) (λ l. f (lex_later false l)) (λ l. g (lex_later false l)))
lex_total (true ∷ X) (false ∷ Y) e f g = absurd (f (lex_here X Y))
lex_total (false ∷ X) (true ∷ Y) e f g = absurd (g (lex_here Y X))

antilex_heads : (x y : Bool) {X Y : Selection} → X ≡ Y → (AntilexBefore (x ∷ X) (y ∷ Y) → ⊥) → (AntilexBefore (y ∷ Y) (x ∷ X) → ⊥)
    → x ∷ X ≡ y ∷ Y
antilex_heads true true e f g = ap {B = Selection} (λ Z. true ∷ Z) e
antilex_heads false false e f g = ap {B = Selection} (λ Z. false ∷ Z) e
antilex_heads true false e f g = absurd (g (antilex_here (sym e)))
antilex_heads false true e f g = absurd (f (antilex_here e))

pub antilex_total : (X Y : Selection) → length X ≡ length Y → (AntilexBefore X Y → ⊥) → (AntilexBefore Y X → ⊥) → X ≡ Y
antilex_total [] [] e f g = refl
antilex_total [] (y ∷ Y) e f g = absurd (omega arith)
antilex_total (x ∷ X) [] e f g = absurd (omega arith)
antilex_total (x ∷ X) (y ∷ Y) e f g =
    antilex_heads x y (antilex_total X Y (omega arith) (λ l. f (antilex_later x y l)) (λ l. g (antilex_later y x l))) f g

-- a proper superset comes first in the one order, a proper subset in the other
pub superset_first : {X Y : Selection} → X ⊆ Y → (LexBefore Y X → ⊥) → X ≡ Y
superset_first ends f = refl
superset_first (same {b} r) f = ap {B = Selection} (λ Z. b ∷ Z) (superset_first r (λ l. f (lex_later b l)))
superset_first (more {X} {Y} r) f = absurd (f (lex_here Y X))

pub subset_first : {X Y : Selection} → X ⊆ Y → (AntilexBefore X Y → ⊥) → X ≡ Y
subset_first ends f = refl
subset_first (same {b} r) f = ap {B = Selection} (λ Z. b ∷ Z) (subset_first r (λ l. f (antilex_later b b l)))
subset_first (more r) f = absurd (f (antilex_here (subset_first r (λ l. f (antilex_later false true l)))))

module _ (ok : Question) (n : ℕ) where
  pub preferred_relaxation_is_unique : {X Y : Selection} → PreferredRelaxation ok n X → PreferredRelaxation ok n Y → X ≡ Y
  preferred_relaxation_is_unique {X} {Y} p q =
      lex_total X Y (p.relaxation.over ∙ sym q.relaxation.over) (q.none_before X p.relaxation) (p.none_before Y q.relaxation)

  pub preferred_conflict_is_unique : {X Y : Selection} → PreferredConflict ok n X → PreferredConflict ok n Y → X ≡ Y
  preferred_conflict_is_unique {X} {Y} p q =
      antilex_total X Y (p.conflict.over ∙ sym q.conflict.over) (q.none_before X p.conflict) (p.none_before Y q.conflict)

  pub preferred_relaxation_is_maximal : {X : Selection} → PreferredRelaxation ok n X → Maximal ok X
  preferred_relaxation_is_maximal {X} p Y r differ = go (ok Y) refl
    where
      go : (b : Bool) → ok Y ≡ b → ok Y ≡ false
      go false e = e
      go true e =
          absurd (differ (superset_first r (p.none_before Y (record { over = sym (subset-length r) ∙ p.relaxation.over; stands = e }))))

  pub preferred_conflict_is_minimal : {X : Selection} → PreferredConflict ok n X → Minimal ok X
  preferred_conflict_is_minimal {X} p Y r differ = go (ok Y) refl
    where
      go : (b : Bool) → ok Y ≡ b → ok Y ≡ true
      go true e = e
      go false e = absurd (differ (subset_first r (p.none_before Y (record { over = subset-length r ∙ p.conflict.over; fails = e }))))
