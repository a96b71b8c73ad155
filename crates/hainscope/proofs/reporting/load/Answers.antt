-- `hainscope::reporting::load` meets its contract.
use Rattle.std.proofs.Common.{length, refl, ◌∙◌, sym, arith}
use Rattle.table.specs.Words.{words}
use Rattle.table.proofs.RecordsStand.{length-words}
use Rattle.hainscope.proofs.Writing.{parts_long, part_read, load_turns, load_ends}
use Rattle.hainscope.proofs.reporting.load.Goals as goal

pub loop-place-init : goal.loop-place-init
loop-place-init c = refl

pub bounds-order-place : goal.bounds-order-place
bounds-order-place c = omega (arith, parts_long _ _ _ _ c.words-loaded.ensures)

pub loop-place-preserved : goal.loop-place-preserved
loop-place-preserved c =
    let long = length-words (length c.args.order.now) c.args.table.now c.args.from in
    load_turns c.loop-place.order (words (length c.args.order.now) c.args.table.now c.args.from) c.loop-place.place c.loop-place.invariant
    (c.loop-place.auto.order ∙ sym long) _ (omega (arith, long, parts_long _ _ _ _ c.words-loaded.ensures))
    (part_read _ _ _ _ c.words-loaded.ensures c.loop-place.place _ c.loop-place-test.true c.value_in.ensures.0)

pub returns : goal.returns
returns c =
    let long = length-words (length c.args.order.now) c.args.table.now c.args.from in
    load_ends c.loop-place.order (words (length c.args.order.now) c.args.table.now c.args.from) c.loop-place.place c.loop-place.invariant
    (c.loop-place.auto.order ∙ sym long) (omega (arith, long, parts_long _ _ _ _ c.words-loaded.ensures))
