use Rattle.std.proofs.Common.{◌≤◌}
use Rattle.choice.proofs.scores.count_undecided.Given as goal

abbrev pub invariant-loop-literal : goal.invariant-loop-literal
invariant-loop-literal l = l.undecided ≤ l.literal-index
