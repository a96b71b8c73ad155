use Rattle.std.proofs.Common.{length}
use Rattle.question.proofs.Decisions.{TakingBack}
use Rattle.question.proofs.trail.Trail.take_back.Given as goal

abbrev pub invariant-loop-last : goal.invariant-loop-last
invariant-loop-last l = TakingBack l.initial.self l.initial.values l.self l.values

abbrev pub decreases-loop-last : goal.decreases-loop-last
decreases-loop-last l = length l.self
