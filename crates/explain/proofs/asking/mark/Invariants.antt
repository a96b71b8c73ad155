-- `explain::asking::mark` meets its contract.
use Rattle.explain.proofs.Marking.{MarksLeft}
use Rattle.explain.proofs.asking.mark.Given as goal

abbrev pub invariant-loop-request : goal.invariant-loop-request
invariant-loop-request l = (goal.iterator-loop-request).can_next l.request-iterator
    × (goal.iterator-loop-request).is_finite l.request-iterator
    × MarksLeft l.order l.flags l.chosen l.initial.chosen l.request-iterator.a.rest.now l.request-iterator.b.rest.now
