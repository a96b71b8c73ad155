use Rattle.table.proofs.Accepted.{accepted_keeps}
use Rattle.question.proofs.rows.Rows.of.Goals as goal

pub invariant_of-result : goal.invariant_of-result
invariant_of-result c = record { kept = (accepted_keeps _ _ c.args.table.accepted).rows_kept }
