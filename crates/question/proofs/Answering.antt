-- What the search finds is found of the rows that count, and from no decided variable on it answers the question.
use Rattle.std.proofs.Common.{◌≡◌, ℕ, ◌<◌, Bool, true, false, List, ◌++◌, length, take, refl, sym, ap, ◌∙◌}
use Rattle.std.proofs.Math.Seq.{take-append_seam}
use Rattle.table.specs.declared.record.Frame.{Frame}
use Rattle.table.specs.Lists.{every}
use Rattle.table.specs.Rows.{row_at}
use Rattle.table.specs.Kept.{first_row, rows_of}
use Rattle.meaning.specs.Meaning.{Setting, meets, meets_all}
use Rattle.meaning.specs.Stands.{stands, by_role}
use Rattle.meaning.specs.HalfMade.{Values, is_free}
use Rattle.meaning.proofs.Tested.{every_at, at_every, equal_answers}
use Rattle.meaning.proofs.Standing.{Passing, meets_stands, stands_meets}
use Rattle.meaning.proofs.HalfMade.{free_agrees}
use Rattle.question.specs.Counting.{Noted}
use Rattle.question.specs.Completing.{Completion, Completed, MeetsEach, MeetsCounting}
use Rattle.question.proofs.Noting.{every_counting}
use Rattle.question.proofs.Seeing.{passing_too}

-- the search works on a copy of the values
pub copied : (values copy rest : Values) → copy ≡ values → take (length values) (copy ++ rest) ≡ values
copied values copy rest e = rw e (take-append_seam values rest)

-- a search over the places of the rows that count is one over these rows
module _ (t : List ℕ) (f : Frame) (chosen : List Bool) (places : List ℕ) (noted : ℕ) (counting : Noted (by_role chosen) f.rows t places noted) where
  module _ (setting : Setting) where
    same_met : every (λ place. meets setting (row_at t place)) (take noted places) ≡ meets_all (by_role chosen) setting (rows_of t f)
    same_met = ap (every (λ place. meets setting (row_at t place))) counting.places_noted ∙ every_counting (by_role chosen) setting f.rows t first_row

    all_met : MeetsEach t (take noted places) setting → MeetsCounting t f chosen setting
    all_met met = sym same_met ∙ at_every (λ place. meets setting (row_at t place)) (take noted places) 0 (λ i h. met.each i 0 h)

    each_met : MeetsCounting t f chosen setting → MeetsEach t (take noted places) setting
    each_met met =
        record { each = λ i d h. every_at (λ place. meets setting (row_at t place)) (take noted places) d i (same_met ∙ met) h }

  pub rows_searched :
      (values : Values) (answer : Bool) → Completed (MeetsEach t (take noted places)) values answer → Completed (MeetsCounting t f chosen) values answer
  rows_searched values answer searched =
      record {
        found = λ good. passing_too (λ setting _. all_met setting) (searched.found good);
        none = λ bad found. searched.none bad (passing_too (λ setting _. each_met setting) found);
      }

-- from no decided variable on it answers the question
module _ (t : List ℕ) (f : Frame) (chosen : List Bool) (values : Values) (answer : Bool) (long : length values ≡ f.variables)
    (free : (other : ℕ) → other < length values → is_free values other ≡ true) (done : Completed (MeetsCounting t f chosen) values answer) where
  yes_stands : answer ≡ true → stands (rows_of t f) f.variables (by_role chosen) ≡ true
  yes_stands e =
      let found : Completion (MeetsCounting t f chosen) values = done.found e in
      meets_stands (rows_of t f) f.variables (by_role chosen) found.setting (found.agrees.each ∙ long) found.passes

  stands_found : stands (rows_of t f) f.variables (by_role chosen) ≡ true → Completion (MeetsCounting t f chosen) values
  stands_found e =
      let s : Passing (λ setting. meets_all (by_role chosen) setting (rows_of t f)) f.variables = stands_meets (rows_of t f) f.variables (by_role chosen) e in
      record { setting = s.setting; agrees = free_agrees values s.setting (s.each ∙ sym long) free; passes = s.passes }

  stands_yes : (given : Bool) → answer ≡ given → stands (rows_of t f) f.variables (by_role chosen) ≡ true → given ≡ true
  stands_yes true e s = refl
  stands_yes false e s = absurd (done.none e (stands_found s))

  pub answered : answer ≡ stands (rows_of t f) f.variables (by_role chosen)
  answered = equal_answers answer (stands (rows_of t f) f.variables (by_role chosen)) yes_stands (stands_yes answer refl)
