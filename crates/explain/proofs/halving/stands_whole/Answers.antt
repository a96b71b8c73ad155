-- `explain::halving::stands_whole` meets its contract.
use Rattle.std.proofs.Common.{arith}
use Rattle.explain.specs.Ranking.{question_over}
use Rattle.explain.proofs.RelaxationParts.{out_within, tried_and_kept, tried_and_left_out}
use Rattle.explain.proofs.halving.stands_whole.Goals as goal

pub fill-requires : goal.fill-requires
fill-requires c = out_within c.requires.1

pub returns-then-ask : goal.returns-then-ask
returns-then-ask c = tried_and_kept (question_over c.args.ranked.now) c.args.part.from c.args.part.count c.args.asking
    c.args.flags.now c.if-not-asking.false _ c.ask.result c.fill.ensures c.ask.ensures c.if-ask.true

pub fill-requires-2 : goal.fill-requires-2
fill-requires-2 c = omega (arith, out_within c.requires.1, c.fill.auto.flags)

pub returns : goal.returns
returns c = tried_and_left_out (question_over c.args.ranked.now) c.args.part.from c.args.part.count c.args.asking
    c.args.flags.now c.if-not-asking.false _ c.ask.result c.fill.ensures c.ask.ensures _ c.fill-2.ensures c.if-ask.false
