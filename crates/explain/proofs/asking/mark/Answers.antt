-- `explain::asking::mark` meets its contract.
use Rattle.std.proofs.Common.{inl, inr, ⊎_elim}
use Rattle.explain.proofs.Marking.{entry_within, one_marked, one_passed, all_marked}
use Rattle.explain.proofs.asking.mark.Goals as goal

pub bounds-chosen-from : goal.bounds-chosen-from
bounds-chosen-from c =
    rw c.from.ensures (entry_within c.loop-request.invariant.2 c.in-Some.ensures.steps.0 c.in-Some.ensures.steps.1)

pub loop-request-preserved-then-is_chosen : goal.loop-request-preserved-then-is_chosen
loop-request-preserved-then-is_chosen c = (
  (tt, tt),
  tt,
  one_marked c.loop-request.invariant.2 c.in-Some.ensures.steps.0 c.in-Some.ensures.steps.1 c.if-is_chosen.true c.from.ensures,
)

pub loop-request-preserved : goal.loop-request-preserved
loop-request-preserved c = (
  (tt, tt),
  tt,
  one_passed c.loop-request.invariant.2 c.in-Some.ensures.steps.0 c.in-Some.ensures.steps.1 c.if-is_chosen.false,
)

pub returns : goal.returns
returns c = all_marked c.loop-request.invariant.2 (⊎_elim (λ empty. inl empty.1.0) (λ empty. inr empty.1.0) c.in-None.ensures.steps)
