-- `explain::asking::ask` meets its contract.
use Rattle.explain.proofs.Questions.{order_fits, may_ask, same_question}
use Rattle.explain.proofs.asking.ask.Goals as goal

pub mark-requires : goal.mark-requires
mark-requires c = order_fits c.args.ranked.now

pub can_stand-requires : goal.can_stand-requires
can_stand-requires c = may_ask c.args.ranked.now c.args.flags.now _ c.mark.ensures

pub returns : goal.returns
returns c = same_question c.args.ranked.now c.args.flags.now _ c.mark.ensures c.can_stand.result c.can_stand.ensures
