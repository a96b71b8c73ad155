use Rattle.choice.specs.Chosen.{Chosen}
use Rattle.choice.proofs.variables.best_variable.Given as goal

abbrev pub invariant-loop-next : goal.invariant-loop-next
invariant-loop-next l = Chosen l.values l.next l.best
