use Rattle.question.proofs.Decisions.{back_turn, back_stop, back_end}
use Rattle.question.proofs.trail.Trail.take_back.Goals as goal

pub returns-then-last-ne0 : goal.returns-then-last-ne0
returns-then-last-ne0 c = back_stop (rw c.in-Some.ensures at c.loop-last.invariant) c.if-last-ne0.true

pub loop-last-preserved : goal.loop-last-preserved
loop-last-preserved c = back_turn (rw c.in-Some.ensures at c.loop-last.invariant) c.if-last-ne0.false

pub returns : goal.returns
returns c = back_end c.loop-last.invariant c.in_default.ensures
