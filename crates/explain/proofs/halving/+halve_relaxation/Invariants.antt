-- `explain::halving::halve_relaxation` meets its contract.
use Rattle.explain.proofs.halving.+halve_relaxation.Given as goal

abbrev pub decreases-halve_relaxation : goal.decreases-halve_relaxation
decreases-halve_relaxation l = l.part.count
