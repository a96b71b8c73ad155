use Rattle.std.proofs.Common.{◌≤◌}
use Rattle.question.proofs.OpenRows.{Sorted}
use Rattle.question.proofs.narrowing.narrow.Given as goal

abbrev pub invariant-loop-next : goal.invariant-loop-next
invariant-loop-next l = (l.kept ≤ l.next) × Sorted l.table l.values l.initial.places l.places l.kept l.next
