-- `explain::one_by_one::add_one_by_one` meets its contract.
use Rattle.std.proofs.Common.{arith, length}
use Rattle.explain.specs.Ranking.{question_over}
use Rattle.explain.proofs.Trying.{adding_begins, adding_turns, adding_done}
use Rattle.explain.proofs.one_by_one.add_one_by_one.Goals as goal

pub loop-place-init : goal.loop-place-init
loop-place-init c = adding_begins (question_over c.args.ranked.now) (length c.args.flags.now) _ (c.fill.ensures.after (λ value same. same))

pub overflow_add-asked : goal.overflow_add-asked
overflow_add-asked c = omega (arith, c.loop-place.invariant.counted)

pub loop-place-preserved : goal.loop-place-preserved
loop-place-preserved c = adding_turns (question_over c.args.ranked.now) _ c.loop-place.flags c.loop-place.asked
    c.loop-place.place c.loop-place.invariant (omega arith) _ c.try_at.ensures

pub returns : goal.returns
returns c = adding_done (question_over c.args.ranked.now) _ c.loop-place.flags c.loop-place.asked c.loop-place.place c.loop-place.invariant (omega arith)
