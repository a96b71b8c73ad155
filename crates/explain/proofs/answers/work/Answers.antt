-- `explain::answers::work` meets its contract.
use Rattle.explain.specs.Ranking.{question_over}
use Rattle.explain.specs.Methods.{worked_by}
use Rattle.explain.proofs.Finishing.{conflict_starts, relaxation_starts, conflict_told, relaxation_told}
use Rattle.explain.proofs.answers.work.Goals as goal

pub halve_conflict-requires : goal.halve_conflict-requires
halve_conflict-requires c = (c.requires.0, conflict_starts c.args.flags.now c.requires.1 c.requires.2)

pub halve_relaxation-requires : goal.halve_relaxation-requires
halve_relaxation-requires c = (c.requires.0, relaxation_starts c.args.flags.now c.requires.1 c.requires.2)

pub returns-in-ConflictByHalving : goal.returns-in-ConflictByHalving
unfolding worked_by
returns-in-ConflictByHalving c = rw c.in-ConflictByHalving.is
    (conflict_told c.args.flags.now c.requires.1 c.requires.2 (question_over c.args.ranked.now) _ _ _
    c.halve_conflict.auto.flags c.halve_conflict.ensures)

pub returns-in-ConflictOneByOne : goal.returns-in-ConflictOneByOne
unfolding worked_by
returns-in-ConflictOneByOne c = rw c.in-ConflictOneByOne.is c.remove_one_by_one.ensures

pub returns-in-RelaxationByHalving : goal.returns-in-RelaxationByHalving
unfolding worked_by
returns-in-RelaxationByHalving c = rw c.in-RelaxationByHalving.is
    (relaxation_told c.args.flags.now c.requires.1 c.requires.2 (question_over c.args.ranked.now) _ _ _
    c.halve_relaxation.auto.flags c.halve_relaxation.ensures)

pub returns-in-RelaxationOneByOne : goal.returns-in-RelaxationOneByOne
unfolding worked_by
returns-in-RelaxationOneByOne c = rw c.in-RelaxationOneByOne.is c.add_one_by_one.ensures
