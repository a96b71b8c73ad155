-- The list by request number that the question is handed says what the order and its flags say.
use Rattle.std.proofs.Common.{ℕ, zero, suc, ◌+◌, ◌<◌, ◌≤◌, ◌≡◌, refl, ◌∙◌, Bool, true, false, ◌||◌, List, [], ◌∷◌, arith, leb, ltb, length, get_or, set}
use Rattle.std.proofs.Common.{replicate, get_or-set_other, le-leb, lt-ltb, ltb-true}
use Rattle.std.proofs.Math.Bool.{or-false, or-true}
use Rattle.table.specs.Lists.{every, among}
use Rattle.table.specs.Limits.{most_requests, within}
use Rattle.table.specs.Kept.{Kept, rows_of}
use Rattle.table.proofs.Accepted.{accepted_keeps}
use Rattle.table.proofs.Steps.{both}
use Rattle.meaning.specs.Stands.{stands, by_role}
use Rattle.question.specs.MayAsk.{MayAsk}
use Rattle.meaning.proofs.Choices.{same_on_table}
use Rattle.preference.specs.Selection.{Selection}
use Rattle.preference.specs.Named.{named}
use Rattle.explain.specs.declared.ranked.Ranked.{Ranked}
use Rattle.explain.specs.Asking.{chosen_by, question_of, marked}
use Rattle.explain.specs.Ranking.{question_over}
use Rattle.explain.proofs.Marking.{length_marked, marked_reads, every_named}

-- a number from 1 on is one from 0 on, and stays below what is higher
from_zero : (low high : ℕ) (xs : List ℕ) → low ≤ high → every (within 1 low) xs ≡ true → every (within 0 high) xs ≡ true
unfolding within
from_zero low high [] more h = refl
from_zero low high (x ∷ xs) more h =
    let g = both (within 1 low x) (every (within 1 low) xs) h in
    let below : x < low = ltb-true x low (both (leb 1 x) (ltb x low) g.0).1 in
    rw (le-leb 0 x (omega arith), lt-ltb x high (omega arith)) (from_zero low high xs more g.1)

-- a list by request number in which nobody is chosen
abbrev nobody : List Bool
nobody = replicate (most_requests + 1) false

no_flag : (many role : ℕ) → get_or (replicate many false) role false ≡ false
no_flag zero role = refl
no_flag (suc many) zero = refl
no_flag (suc many) (suc role) = no_flag many role

module _ (ranked : Ranked) where
  kept : Kept ranked.table.bytes.now ranked.table.frame
  kept = accepted_keeps ranked.table.bytes.now ranked.table.frame ranked.table.accepted

  -- the numbers of the order are places of the list
  pub order_fits : every (within 0 (length (set nobody 0 true))) ranked.order.now ≡ true
  order_fits = from_zero (ranked.table.frame.requests + 1) (most_requests + 1) ranked.order.now (omega (arith, kept.few_requests)) ranked.numbers

  module _ (X : Selection) (marks : List Bool) (e : marks ≡ marked (named ranked.order.now X) (set nobody 0 true)) where
    reads : (role : ℕ) → get_or marks role false ≡ (among role (named ranked.order.now X) || get_or (set nobody 0 true) role false)
    reads role = rw e (marked_reads (named ranked.order.now X) (set nobody 0 true) role (every_named _ ranked.order.now X order_fits))

    long : length marks ≡ most_requests + 1
    long = rw e (length_marked (named ranked.order.now X) (set nobody 0 true))

    -- the question may be asked of it
    pub may_ask : MayAsk ranked.table.frame marks
    may_ask = record { each = omega (arith, long, kept.few_requests); host = reads 0 ∙ or-true (among 0 (named ranked.order.now X)) }

    -- and it is the question of the order
    pub same_question :
        (told : Bool) →
        told ≡ stands (rows_of ranked.table.bytes.now ranked.table.frame) ranked.table.frame.variables (by_role marks) →
        told ≡ question_over ranked X
    unfolding question_of chosen_by
    same_question told h =
        h ∙ same_on_table (by_role marks) (chosen_by ranked.order.now X) ranked.table.bytes.now ranked.table.frame kept
        (λ role more most. reads role
        ∙ rw (get_or-set_other nobody 0 role true false (λ z. omega arith), no_flag (most_requests + 1) role)
        (or-false (among role (named ranked.order.now X))))
