-- Which relaxation and which conflict is the preferred one: document 004, Definitions 3, 4, 6 and 7; document 01, "Meaning".
use Rattle.std.specs.Prelude.{◌≡◌, true, false, ℕ, suc, ◌-◌, length, take, drop, get_or}
use Rattle.preference.specs.Selection.{Selection, all, none, ◌⊆◌}
use Rattle.preference.specs.Question.{Question, Relaxation, Conflict}

-- Definition 3, X before Y: look at the most important request where the two differ; the one with it comes first.
-- (A place past the end of X is taken for false, and past the end of Y for true, so the place lies in both.)
pub record LexBefore (X Y : Selection) : Type 0 where
  pub place : ℕ
  pub above : take place X ≡ take place Y
  pub chosen : get_or X place false ≡ true
  pub left_out : get_or Y place true ≡ false

-- Definition 4: a relaxation with no relaxation before it.
pub record PreferredRelaxation (ok : Question) (n : ℕ) (X : Selection) : Type 0 where
  pub relaxation : Relaxation ok n X
  pub none_before : (Y : Selection) → Relaxation ok n Y → LexBefore Y X → ⊥

-- Definition 6, X before Y: look at the least important request where the two differ; the one without it comes first.
pub record AntilexBefore (X Y : Selection) : Type 0 where
  pub place : ℕ
  pub below : drop (suc place) X ≡ drop (suc place) Y
  pub left_out : get_or X place true ≡ false
  pub chosen : get_or Y place false ≡ true

-- Definition 7: a conflict with no conflict before it.
pub record PreferredConflict (ok : Question) (n : ℕ) (X : Selection) : Type 0 where
  pub conflict : Conflict ok n X
  pub none_before : (Y : Selection) → Conflict ok n Y → AntilexBefore Y X → ⊥

-- After Definition 5: "maximal (non-extensible) meaning that each proper superset of R has no solution".
abbrev pub Maximal : Question → Selection → Type 0
Maximal ok X = (Y : Selection) → X ⊆ Y → (X ≡ Y → ⊥) → ok Y ≡ false

-- After Definition 8: "minimal (irreducible) meaning that each proper subset of C has a solution".
abbrev pub Minimal : Question → Selection → Type 0
Minimal ok X = (Y : Selection) → Y ⊆ X → (Y ≡ X → ⊥) → ok Y ≡ true

-- Proposition 4's two requests: the most important one that X leaves out stands at place k,
pub record MostImportantLeftOut (X : Selection) (k : ℕ) : Type 0 where
  pub above : take k X ≡ all k
  pub left_out : get_or X k true ≡ false

-- and the least important one of X stands at place k.
pub record LeastImportantChosen (X : Selection) (k : ℕ) : Type 0 where
  pub chosen : get_or X k false ≡ true
  pub below : drop (suc k) X ≡ none (length X - suc k)
