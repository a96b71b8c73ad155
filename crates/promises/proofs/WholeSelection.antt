-- All requests and none of them, as the public question is asked about them: the selections 2 ^ N - 1 and 0.
use Rattle.std.proofs.Common.{ℕ, zero, suc, ◌+◌, ◌-◌, ◌%◌, ◌/◌, ◌^◌, ◌≤◌, ◌<◌, ◌≡◌, refl, sym, ap, ◌∙◌, true, false, List, [], ◌∷◌, arith, length, pow_pos}
use Rattle.std.proofs.Math.Nat.{pow-succ'}
use Rattle.std.proofs.Math.ListN.{get_or-replicate}
use Rattle.table.specs.declared.record.Frame.{Frame}
use Rattle.table.specs.Lists.{among}
use Rattle.table.specs.Kept.{Kept, order_of}
use Rattle.preference.specs.Selection.{all, none}
use Rattle.preference.specs.Named.{named}
use Rattle.preference.proofs.Selections.{get_or-none}
use Rattle.explain.specs.Asking.{chosen_by}
use Rattle.promises.specs.Selecting.{bits, selection_of, can_stand}
use Rattle.promises.specs.Reports.{table_question}
use Rattle.promises.proofs.OrderCovers.{order_covers}
use Rattle.table.proofs.RecordsStand.{length-words}
use Rattle.promises.proofs.PublicQuestion.{asked_in_public}

-- all bits are set in 2 ^ n - 1
pub bits_of_all : (n : ℕ) → bits n (2 ^ n - 1) ≡ all n
unfolding bits all
bits_of_all zero = refl
bits_of_all (suc n) =
    let double = pow-succ' 2 n in
    let some = pow_pos n in
    let low : (2 ^ suc n - 1) % 2 ≡ 1 = omega arith in
    let high : (2 ^ suc n - 1) / 2 ≡ 2 ^ n - 1 = omega arith in
    rw (low, high, bits_of_all n)

-- and none in 0
pub bits_of_none : (n : ℕ) → bits n 0 ≡ none n
unfolding bits none
bits_of_none zero = refl
bits_of_none (suc n) = rw (bits_of_none n)

-- all places of an order name the order
pub all_name_the_order : (order : List ℕ) → named order (all (length order)) ≡ order
unfolding named all
all_name_the_order [] = refl
all_name_the_order (request ∷ order) = ap {B = List ℕ} (λ more. request ∷ more) (all_name_the_order order)

-- no place names no request
pub none_name_nothing : (order : List ℕ) (n : ℕ) → named order (none n) ≡ []
unfolding named none
none_name_nothing [] n = refl
none_name_nothing (request ∷ order) zero = refl
none_name_nothing (request ∷ order) (suc n) = none_name_nothing order n

module _ (t : List ℕ) (f : Frame) (kept : Kept t f) where
  -- all places name the table's order
  all_named : named (order_of t f) (all f.requests) ≡ order_of t f
  all_named =
      ap (λ (n : ℕ). named (order_of t f) (all n)) (sym (length-words f.requests t (f.order + 4))) ∙ all_name_the_order (order_of t f)

  -- the methods' first question is the public one about all requests
  pub all_requests_asked_in_public : table_question t f (all f.requests) ≡ can_stand t f (2 ^ f.requests - 1)
  unfolding chosen_by all
  all_requests_asked_in_public = asked_in_public t f (order_of t f) (all f.requests) (2 ^ f.requests - 1) kept names
    where
      set : (role : ℕ) → 0 < role → role ≤ f.requests → selection_of f.requests (2 ^ f.requests - 1) role ≡ true
      set zero some small = absurd (omega arith)
      set (suc role) some small = rw (bits_of_all f.requests) (get_or-replicate f.requests role true false (omega arith))

      names :
          (role : ℕ) → 0 < role → role ≤ f.requests →
          selection_of f.requests (2 ^ f.requests - 1) role ≡ among role (named (order_of t f) (all f.requests))
      names role some small = set role some small ∙ sym (ap (λ (order : List ℕ). among role order) all_named ∙ order_covers t f kept role some small)

  -- and the second the public one about the host alone
  pub host_alone_asked_in_public : table_question t f (none f.requests) ≡ can_stand t f 0
  unfolding chosen_by
  host_alone_asked_in_public = asked_in_public t f (order_of t f) (none f.requests) 0 kept names
    where
      names : (role : ℕ) → 0 < role → role ≤ f.requests → selection_of f.requests 0 role ≡ among role (named (order_of t f) (none f.requests))
      names zero some small = absurd (omega arith)
      names (suc role) some small =
          rw (bits_of_none f.requests, none_name_nothing (order_of t f) f.requests) (get_or-none f.requests role)
