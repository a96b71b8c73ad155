-- `explain::answers::settle` meets its contract.
use Rattle.std.proofs.Common.{⊎_elim}
use Rattle.preference.specs.Selection.{all, none}
use Rattle.explain.specs.Methods.{whole_by}
use Rattle.explain.proofs.answers.settle.Goals as goal

pub returns-in-ConflictByHalving : goal.returns-in-ConflictByHalving
unfolding whole_by none
returns-in-ConflictByHalving c =
    let filled = c.fill.ensures.after (λ value same. same) in ⊎_elim (λ is. rw is filled) (λ is. rw is filled) c.in-ConflictByHalving.is

pub returns-in-RelaxationByHalving : goal.returns-in-RelaxationByHalving
unfolding whole_by all
returns-in-RelaxationByHalving c =
    let filled = c.fill-in-RelaxationByHalving.ensures.after (λ value same. same) in
    ⊎_elim (λ is. rw is filled) (λ is. rw is filled) c.in-RelaxationByHalving.is
