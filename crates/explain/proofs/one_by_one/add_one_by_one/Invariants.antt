-- `explain::one_by_one::add_one_by_one` meets its contract.
use Rattle.std.proofs.Common.{length}
use Rattle.explain.specs.Ranking.{question_over}
use Rattle.explain.proofs.Trying.{Adding}
use Rattle.explain.proofs.one_by_one.add_one_by_one.Given as goal

abbrev pub invariant-loop-place : goal.invariant-loop-place
invariant-loop-place l = Adding (question_over l.ranked) (length l.fn.flags) l.flags l.asked l.place
