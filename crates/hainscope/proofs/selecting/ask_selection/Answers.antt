-- `hainscope::selecting::ask_selection` meets its contract.
use Rattle.std.proofs.Common.{sym, length-take-le, arith}
use Rattle.hainscope.proofs.Writing.{kept}
use Rattle.hainscope.proofs.selecting.ask_selection.Goals as goal

pub overflow_add-chosen : goal.overflow_add-chosen
overflow_add-chosen c = omega (arith, kept c.args.table)

pub slice_bounds-chosen-end : goal.slice_bounds-chosen-end
slice_bounds-chosen-end c = omega (arith, kept c.args.table)

pub slice_bounds-ask_spread-end : goal.slice_bounds-ask_spread-end
slice_bounds-ask_spread-end c = sym (length-take-le _ _ (omega (arith, kept c.args.table)))

pub ask_spread-requires : goal.ask_spread-requires
ask_spread-requires c = length-take-le _ _ (omega (arith, kept c.args.table))
