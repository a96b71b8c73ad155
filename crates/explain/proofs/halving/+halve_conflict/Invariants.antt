-- `explain::halving::halve_conflict` meets its contract.
use Rattle.explain.proofs.halving.+halve_conflict.Given as goal

abbrev pub decreases-halve_conflict : goal.decreases-halve_conflict
decreases-halve_conflict l = l.part.count
