-- `hainscope::calls::report` meets its contract.
use Rattle.std.proofs.Common.{◌≡◌, ℕ, Result, Ok, Err, sym, ◌∙◌, arith, rules}
use Rattle.table.specs.declared.refusals.Refusal.{Refusal}
use Rattle.table.specs.declared.accepted_table.AcceptedTable.{AcceptedTable}
use Rattle.table.proofs.Accepted.{accepted_keeps}
use Rattle.hainscope.specs.declared.refused.Refused.{Refused}
use Rattle.hainscope.specs.declared.refused.Refused.TheVariants.{Table}
use Rattle.hainscope.proofs.Writing.{is_room, start_within, enough, order_long}
use Rattle.hainscope.proofs.Told.{report_refused_told, no_room_told, written_told}
use Rattle.hainscope.proofs.calls.report.Goals as goal

pub returns-in_err-accepted : goal.returns-in_err-accepted
returns-in_err-accepted c =
    let refused : ◌≡◌ {A = Result AcceptedTable Refusal} c.read.result (Err c.in_err-accepted.field-0.0) = search rules in
    let told : ◌≡◌ {A = Result ℕ Refused} c.from_residual.result (Err (Table c.in_err-accepted.field-0.0)) = search rules in
    report_refused_told c.args.method c.args.table.now c.args.buffer.now c.args.start _ c.in_err-accepted.field-0.0 (rw refused at c.read.ensures) told

pub has_room-requires : goal.has_room-requires
has_room-requires c = (accepted_keeps _ _ c.in_ok-accepted.accepted.accepted).few_requests

pub returns-then-not-has_room : goal.returns-then-not-has_room
returns-then-not-has_room c =
    let accepted : ◌≡◌ {A = Result AcceptedTable Refusal} c.read.result (Ok c.in_ok-accepted.accepted) = search rules in
    let same = rw accepted at c.read.ensures in
    no_room_told c.args.method c.args.table.now c.args.buffer.now c.args.start c.in_ok-accepted.accepted.frame (rw same at c.in_ok-accepted.accepted.accepted)
    (sym (is_room c.in_ok-accepted.accepted.frame c.args.buffer.now c.args.start c.has_room.result c.has_room.ensures) ∙ c.if-not-has_room.true)

pub overflow_add-result : goal.overflow_add-result
overflow_add-result c =
    let frame = c.in_ok-accepted.accepted.frame in
    omega (
      arith,
      start_within frame c.args.buffer.now c.args.start c.has_room.result c.has_room.ensures c.if-not-has_room.false,
      enough frame c.args.buffer.now c.args.start c.has_room.result c.has_room.ensures c.if-not-has_room.false,
      c.write_record-written.ensures.within,
      order_long c.in_ok-accepted.accepted.bytes.now frame,
    )

pub returns : goal.returns
returns c =
    let accepted : ◌≡◌ {A = Result AcceptedTable Refusal} c.read.result (Ok c.in_ok-accepted.accepted) = search rules in
    let same = rw accepted at c.read.ensures in
    let frame = c.in_ok-accepted.accepted.frame in
    written_told c.args.method c.args.table.now c.args.buffer.now c.args.start frame (rw same at c.in_ok-accepted.accepted.accepted)
    c.write_record-written.new.part c.write_record-written.result
    (sym (is_room frame c.args.buffer.now c.args.start c.has_room.result c.has_room.ensures) ∙ c.if-not-has_room.false)
    (rw same at c.write_record-written.ensures)
