-- `hainscope::calls::can_stand` meets its contract.
use Rattle.std.proofs.Common.{◌≡◌, Bool, Result, Ok, Err, rules}
use Rattle.table.specs.declared.refusals.Refusal.{Refusal}
use Rattle.table.specs.declared.accepted_table.AcceptedTable.{AcceptedTable}
use Rattle.hainscope.specs.declared.refused.Refused.{Refused}
use Rattle.hainscope.specs.declared.refused.Refused.TheVariants.{Table}
use Rattle.hainscope.proofs.Told.{question_refused, question_told}
use Rattle.hainscope.proofs.calls.can_stand.Goals as goal

pub returns-in_err-accepted : goal.returns-in_err-accepted
returns-in_err-accepted c =
    let refused : ◌≡◌ {A = Result AcceptedTable Refusal} c.read.result (Err c.in_err-accepted.field-0.0) = search rules in
    let told : ◌≡◌ {A = Result Bool Refused} c.from_residual.result (Err (Table c.in_err-accepted.field-0.0)) = search rules in
    question_refused c.args.table.now c.args.selection _ c.in_err-accepted.field-0.0 (rw refused at c.read.ensures) told

pub returns : goal.returns
returns c =
    let accepted : ◌≡◌ {A = Result AcceptedTable Refusal} c.read.result (Ok c.in_ok-accepted.accepted) = search rules in
    let same = rw accepted at c.read.ensures in
    question_told c.args.table.now c.args.selection _ c.in_ok-accepted.accepted.frame (rw same at c.in_ok-accepted.accepted.accepted)
    (rw same at c.ask_selection.ensures)
