-- `hainscope::selecting::spread` meets its contract.
use Rattle.hainscope.proofs.Spreading.{spread_starts, spread_turns, spread_ends}
use Rattle.hainscope.proofs.selecting.spread.Goals as goal

pub loop-is_chosen-init : goal.loop-is_chosen-init
loop-is_chosen-init c = spread_starts c.args.selection c.args.requests.now

pub loop-is_chosen-preserved : goal.loop-is_chosen-preserved
loop-is_chosen-preserved c = spread_turns c.loop-is_chosen.invariant c.loop-is_chosen-test.true

pub returns : goal.returns
returns c = spread_ends c.loop-is_chosen.invariant c.loop-is_chosen-test.false c.loop-is_chosen.auto.is_chosen-index-end
