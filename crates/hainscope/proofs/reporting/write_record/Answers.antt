-- `hainscope::reporting::write_record` meets its contract.
use Rattle.std.proofs.Common.{sym, length-take-le}
use Rattle.hainscope.proofs.Writing.{kept}
use Rattle.hainscope.proofs.reporting.write_record.Goals as goal

pub slice_bounds-order-end : goal.slice_bounds-order-end
slice_bounds-order-end c = (kept c.args.table).few_requests

pub slice_bounds-flags-end : goal.slice_bounds-flags-end
slice_bounds-flags-end c = (kept c.args.table).few_requests

pub slice_bounds-write_answer-end : goal.slice_bounds-write_answer-end
slice_bounds-write_answer-end c = sym (length-take-le _ _ (kept c.args.table).few_requests)

pub slice_bounds-write_answer-end-2 : goal.slice_bounds-write_answer-end-2
slice_bounds-write_answer-end-2 c = sym (length-take-le _ _ (kept c.args.table).few_requests)

pub write_answer-requires : goal.write_answer-requires
write_answer-requires c =
    let few = (kept c.args.table).few_requests in (c.requires, length-take-le _ _ few, length-take-le _ _ few)
