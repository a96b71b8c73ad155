-- The branches of a search that are still to be tried, one for each decision of its trail that has rows waiting.
use Rattle.std.proofs.Common.{◌≡◌, ℕ, zero, suc, ◌+◌, ◌<◌, ◌≤◌, ◌⊎◌, Bool, true, false, cond, eqb, List, [], ◌∷◌, ◌++◌}
use Rattle.std.proofs.Common.{length, get_or, take, drop, set, refl, ap, arith, IsPermutation, Some, None}
use Rattle.std.proofs.lemmas.Bool.{eqb-false}
use Rattle.std.proofs.lemmas.List.{length-set}
use Rattle.std.proofs.lemmas.List.Elements.{All-cons}
use Rattle.meaning.specs.Meaning.{Setting}
use Rattle.meaning.specs.HalfMade.{Values, Agrees, undecided}
use Rattle.meaning.proofs.HalfMade.{agrees_freed}
use Rattle.question.specs.declared.trail.Decided.{Decided}
use Rattle.question.specs.Trail.{EachInside, other_value}
use Rattle.question.specs.Completing.{Completion, MeetsEach}
use Rattle.question.proofs.Rearranging.{more_rearranged}
use Rattle.question.proofs.Seeing.{met_before}

-- the nodes of a whole tree of decisions over so many variables
unfoldable pub nodes : ℕ → ℕ
nodes zero = 1
nodes (suc variables) = suc (nodes variables + nodes variables)

-- the nodes of the branches that are still to be tried
unfoldable pub ahead : List Decided → Values → ℕ
ahead [] values = 0
ahead (last ∷ earlier) values = cond (eqb last.waiting 0) 0 (nodes (undecided values)) + ahead earlier (set values last.variable None)

-- so many rows are open in a branch: those that wait, or as many as below it where none do
abbrev pub open_in : ℕ → ℕ → ℕ
open_in waiting count = cond (eqb waiting 0) count waiting

pub open_more : (waiting count few : ℕ) → few ≤ count → (0 < waiting → count ≤ waiting) → few ≤ open_in waiting count
open_more waiting count few h more = go (eqb waiting 0) refl
  where
    go : (none : Bool) → eqb waiting 0 ≡ none → few ≤ cond none count waiting
    go true p = h
    go false p = let some : waiting ≡ 0 → ⊥ = eqb-false waiting 0 p in omega (arith, more (omega arith))

open_fewer : (waiting count few : ℕ) → few ≤ count → open_in waiting few ≤ open_in waiting count
open_fewer waiting count few h = go (eqb waiting 0)
  where
    go : (none : Bool) → cond none few waiting ≤ cond none count waiting
    go true = h
    go false = omega arith

-- over the rows of a table at the places that the search began with, and the values that it began with
module _ (t start : List ℕ) (base : Values) where
  -- the rows at the first `count` places decide for every completion of the values
  pub record Decides (places : List ℕ) (count : ℕ) (values : Values) : Type 0 where
    pub few : count ≤ length start
    pub enough : (setting : Setting) → Agrees values setting → MeetsEach t (take count places) setting → MeetsEach t start setting

  -- a decision at values that have it: the rows that wait, `count` at least, decide for the values before it
  pub record Waits (places : List ℕ) (count : ℕ) (values : Values) (last : Decided) : Type 0 where
    pub inside : last.variable < length values
    pub value : Bool
    pub decided : get_or values last.variable (Some false) ≡ Some value
    pub more : 0 < last.waiting → count ≤ last.waiting
    pub decide : 0 < last.waiting → Decides places last.waiting (set values last.variable None)

  -- the decisions lead from the values at the start to these
  unfoldable pub Path : List ℕ → List Decided → ℕ → Values → Type 0
  Path places [] count values = values ≡ base
  Path places (last ∷ earlier) count values =
      Waits places count values last × Path places earlier (open_in last.waiting count) (set values last.variable None)

  -- some branch that is still to be tried has a completion that meets all rows
  unfoldable pub Pending : List Decided → Values → Type 0
  Pending [] values = ⊥
  Pending (last ∷ earlier) values =
      ((0 < last.waiting) × Completion (MeetsEach t start) (set values last.variable (other_value (get_or values last.variable (Some false)))))
      ⊎ Pending earlier (set values last.variable None)

  -- the open rows, the first `few`, may be rearranged
  module _ (places front : List ℕ) (few : ℕ) (inside : few ≤ length places) (moved : IsPermutation (take few places) front) where
    decides_moved : (count : ℕ) (values : Values) → few ≤ count → Decides places count values → Decides (front ++ drop few places) count values
    decides_moved count values h decide =
        record {
          few = decide.few;
          enough = λ setting agrees met.
              decide.enough setting agrees
              (met_before t (take count places) (take count (front ++ drop few places)) (more_rearranged places front few moved count h inside) setting met);
        }

    pub path_moved :
        (trail : List Decided) (count : ℕ) (values : Values) →
        few ≤ count →
        Path places trail count values →
        Path (front ++ drop few places) trail count values
    unfolding Path
    path_moved [] count values h same = same
    path_moved (last ∷ earlier) count values h (waits, more) = (
      record {
        inside = waits.inside;
        value = waits.value;
        decided = waits.decided;
        more = waits.more;
        decide = λ some. decides_moved last.waiting (set values last.variable None) (omega (arith, waits.more some)) (waits.decide some);
      },
      path_moved earlier (open_in last.waiting count) (set values last.variable None) (open_more last.waiting count few h waits.more) more,
    )

  -- fewer rows may be open
  pub path_fewer :
      (places : List ℕ) (trail : List Decided) (few count : ℕ) (values : Values) → few ≤ count → Path places trail count values → Path places trail few values
  unfolding Path
  path_fewer places [] few count values h same = same
  path_fewer places (last ∷ earlier) few count values h (waits, more) = (
    record { inside = waits.inside; value = waits.value; decided = waits.decided; more = λ some. omega (arith, waits.more some); decide = waits.decide },
    path_fewer places earlier (open_in last.waiting few) (open_in last.waiting count)
        (set values last.variable None) (open_fewer last.waiting count few h) more,
  )

  -- a setting with the decided values has those of the start
  pub path_agrees :
      (places : List ℕ) (trail : List Decided) (count : ℕ) (values : Values) (setting : Setting) →
      Path places trail count values →
      Agrees values setting →
      Agrees base setting
  unfolding Path
  path_agrees places [] count values setting same agrees = rw (← same) agrees
  path_agrees places (last ∷ earlier) count values setting (waits, more) agrees =
      path_agrees places earlier (open_in last.waiting count) (set values last.variable None) setting more
      (agrees_freed values last.variable setting waits.inside agrees)

  pub path_length : (places : List ℕ) (trail : List Decided) (count : ℕ) (values : Values) → Path places trail count values → length values ≡ length base
  unfolding Path
  path_length places [] count values same = ap length same
  path_length places (last ∷ earlier) count values (waits, more) =
      simp length-set at (path_length places earlier (open_in last.waiting count) (set values last.variable None) more)

  -- each decision is over a variable that there is
  pub path_inside : (places : List ℕ) (trail : List Decided) (count : ℕ) (values : Values) → Path places trail count values → EachInside values trail
  unfolding Path
  path_inside places [] count values same = λ k d h. absurd (omega arith)
  path_inside places (last ∷ earlier) count values (waits, more) =
      All-cons (λ decided. decided.variable < length values) last earlier waits.inside
      (λ k d h. simp length-set at (path_inside places earlier (open_in last.waiting count) (set values last.variable None) more k d h))
