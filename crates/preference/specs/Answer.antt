-- Both methods with their shared start: status, set and count, as a report has them (document 01, "The report").
use Rattle.std.specs.Prelude.{◌≡◌, false, cond, [], ℕ, ◌+◌, eqb}
use Rattle.preference.specs.Selection.{Selection, all, none}
use Rattle.preference.specs.Question.{Question}
use Rattle.preference.specs.Part.{Part}
use Rattle.preference.specs.OneByOne.{one_conflict, one_relax}
use Rattle.preference.specs.Cut.{Tree, tree_by, half}
use Rattle.preference.specs.Halving.{halve_conflict, halve_relax}

-- Status 0: all can stand. Status 1: a conflict, or a relaxation that drops something. Status 2: the host rows cannot stand.
pub record Answer : Type 0 where
  pub status : ℕ
  pub set : Selection
  pub asked : ℕ

-- Two answers that say the same; their counts may differ.
pub record SameAnswer (a b : Answer) : Type 0 where
  pub status : a.status ≡ b.status
  pub set : a.set ≡ b.set

-- "Both methods, for conflict and relaxation, start so: ask all requests; if they can stand, stop (1 question). If N = 0, stop (1).
-- Ask the host rows alone, also when there are none; if they cannot stand, stop (2)."
-- `whole` is the set where all can stand, and `worked` what the method finds.
unfoldable pub answered : (ok : Question) (n : ℕ) (whole : Selection) (worked : Part) → Answer
answered ok n whole worked =
    cond (ok (all n)) (record { status = 0; set = whole; asked = 1 })
    (cond (eqb n 0) (record { status = 2; set = none n; asked = 1 })
    (cond (ok (none n)) (record { status = 1; set = worked.set; asked = 2 + worked.asked }) (record { status = 2; set = none n; asked = 2 })))

-- The conflict, one by one.
abbrev pub conflict_one_by_one : Question → ℕ → Answer
conflict_one_by_one ok n = answered ok n (none n) (one_conflict ok n [])

-- The relaxation, one by one.
abbrev pub relaxation_one_by_one : Question → ℕ → Answer
relaxation_one_by_one ok n = answered ok n (all n) (one_relax ok [] n)

-- The conflict, by halving over any way of cutting. "The first part's ground was asked at the start and is not asked again."
abbrev pub conflict_over : Tree → Question → ℕ → Answer
conflict_over t ok n = answered ok n (none n) (halve_conflict ok t 0 false [])

-- The relaxation, by halving over any way of cutting.
abbrev pub relaxation_over : Tree → Question → ℕ → Answer
relaxation_over t ok n = answered ok n (all n) (halve_relax ok t [] 0 false)

-- Halving by a rule that says where a part is cut.
abbrev pub conflict_by_cut : (cut : ℕ → ℕ) → Question → ℕ → Answer
conflict_by_cut cut ok n = conflict_over (tree_by cut n) ok n

abbrev pub relaxation_by_cut : (cut : ℕ → ℕ) → Question → ℕ → Answer
relaxation_by_cut cut ok n = relaxation_over (tree_by cut n) ok n

-- Halving as document 01 has it, by the middle.
abbrev pub conflict_by_halving : Question → ℕ → Answer
conflict_by_halving ok n = conflict_by_cut half ok n

abbrev pub relaxation_by_halving : Question → ℕ → Answer
relaxation_by_halving ok n = relaxation_by_cut half ok n
