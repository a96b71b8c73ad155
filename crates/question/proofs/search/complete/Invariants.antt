use Rattle.std.proofs.Common.{◌+◌}
use Rattle.meaning.specs.HalfMade.{undecided}
use Rattle.question.proofs.Branches.{nodes, ahead}
use Rattle.question.proofs.Searching.{Reached}
use Rattle.question.proofs.search.complete.Given as goal

abbrev pub invariant-loop-trail : goal.invariant-loop-trail
invariant-loop-trail l = Reached l.table l.initial.places l.initial.values l.places l.trail l.count l.values

abbrev pub decreases-loop-trail : goal.decreases-loop-trail
decreases-loop-trail l = nodes (undecided l.values) + ahead l.trail l.values
