-- `hainscope::reporting::record_kind` meets its contract.
use Rattle.std.proofs.Common.{⊎_elim}
use Rattle.promises.specs.Reports.{kind_by}
use Rattle.hainscope.proofs.reporting.record_kind.Goals as goal

pub returns-in-ConflictByHalving : goal.returns-in-ConflictByHalving
unfolding kind_by
returns-in-ConflictByHalving c = ⊎_elim (λ is. rw is) (λ is. rw is) c.in-ConflictByHalving.is

pub returns-in-RelaxationByHalving : goal.returns-in-RelaxationByHalving
unfolding kind_by
returns-in-RelaxationByHalving c = ⊎_elim (λ is. rw is) (λ is. rw is) c.in-RelaxationByHalving.is
