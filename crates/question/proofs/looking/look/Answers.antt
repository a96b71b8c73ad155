use Rattle.question.proofs.Rearranging.{asked_open}
use Rattle.question.proofs.Seeing.{none_open, not_met, met_all}
use Rattle.question.proofs.looking.look.Goals as goal

pub returns-then-left-eq0 : goal.returns-then-left-eq0
returns-then-left-eq0 c = none_open c.in-Ok.ensures c.if-left-eq0.true

pub choose-requires : goal.choose-requires
choose-requires c = asked_open c.narrow_unless_blind.ensures.rearranged c.in-Ok.ensures.tells.few c.requires

pub narrow-requires : goal.narrow-requires
narrow-requires c = asked_open c.narrow_unless_blind.ensures.rearranged c.in-Ok.ensures.tells.few c.requires

pub returns-in-Ok-narrow : goal.returns-in-Ok-narrow
returns-in-Ok-narrow c = met_all c.in-Ok.ensures c.in-Ok-narrow.ensures c.in_default.ensures

pub returns-in-Err-narrow : goal.returns-in-Err-narrow
returns-in-Err-narrow c = not_met c.in-Ok.ensures c.in-Err-narrow.ensures
