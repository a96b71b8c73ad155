-- `hainscope_cli::read_full` meets its contract.
use Rattle.std.proofs.Common.{length, ◌-◌, ◌≤◌}
use Rattle.hainscope_cli.proofs.read_full.Given as goal

abbrev pub invariant-loop-came : goal.invariant-loop-came
invariant-loop-came g l = l.came ≤ length l.bytes

abbrev pub decreases-loop-came : goal.decreases-loop-came
decreases-loop-came g l = length l.bytes - l.came
