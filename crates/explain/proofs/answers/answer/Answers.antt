-- `explain::answers::answer` meets its contract.
use Rattle.std.proofs.Common.{sym, ◌∙◌, ap, length}
use Rattle.preference.specs.Selection.{none}
use Rattle.explain.specs.Ranking.{question_over}
use Rattle.explain.specs.Methods.{whole_by}
use Rattle.explain.proofs.Finishing.{answers_all, answers_host_fails, answers_worked, open_none, open_some}
use Rattle.explain.proofs.answers.answer.Goals as goal

pub work-asked-requires : goal.work-asked-requires
work-asked-requires c = let question = question_over c.args.ranked.now in (
  c.begin.auto.flags ∙ c.requires,
  open_none c.args.method question (length c.args.flags.now) c.begin.result _ c.begin.ensures c.in-Open.is
      ∙ ap none (sym c.begin.auto.flags),
  rw c.begin.auto.flags
      (open_some c.args.method question (length c.args.flags.now) c.begin.result _ c.begin.ensures c.in-Open.is),
)

pub returns-in-AllStand : goal.returns-in-AllStand
returns-in-AllStand c = answers_all c.args.method (question_over c.args.ranked.now)
    (length c.args.flags.now) c.begin.result _ c.begin.ensures c.in-AllStand.is _
    (c.settle.ensures ∙ ap (whole_by c.args.method) c.begin.auto.flags)

pub returns-in-HostFails : goal.returns-in-HostFails
returns-in-HostFails c = answers_host_fails c.args.method (question_over c.args.ranked.now)
    (length c.args.flags.now) c.begin.result _ c.begin.ensures _ c.in-HostFails.is

pub returns-in-Open : goal.returns-in-Open
returns-in-Open c = answers_worked c.args.method (question_over c.args.ranked.now) (length c.args.flags.now) c.begin.result _
    c.begin.ensures c.in-Open.is _ _ (c.work-asked.auto.flags ∙ c.begin.auto.flags) (rw c.begin.auto.flags at c.work-asked.ensures)
