-- `hainscope::selecting::spread` meets its contract.
use Rattle.hainscope.proofs.Spreading.{Spreading}
use Rattle.hainscope.proofs.selecting.spread.Given as goal

abbrev pub invariant-loop-is_chosen : goal.invariant-loop-is_chosen
invariant-loop-is_chosen l = Spreading l.fn.selection l.initial.requests l.requests l.is_chosen-index l.rest
