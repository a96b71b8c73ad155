-- `table::body::walk` meets its contract.
use Rattle.std.proofs.Common.{◌≡◌, ◌+◌, ◌-◌, ap, ◌∙◌, arith}
use Rattle.table.specs.Body.{place_of_record, stretch_at}
use Rattle.table.proofs.Bodies.{place_turn, whole_next, none_found}
use Rattle.table.proofs.body.walk.Goals as goal

pub returns-then-table-at : goal.returns-then-table-at
returns-then-table-at c =
    none_found c.args.table.now c.loop.at (c.args.wanted - c.loop.counter) c.if-table-at.true ∙ ap (stretch_at c.args.table.now) c.loop.invariant.0

pub loop-preserved : goal.loop-preserved
loop-preserved c =
    let next : c.loop.at + (4 + c.number.result) ≡ c.loop.at + 4 + c.number.result = omega arith in
    let fewer : c.args.wanted - (c.loop.counter + 1) ≡ c.args.wanted - c.loop.counter - 1 = omega arith in (
      ap (λ k. place_of_record k c.args.table.now (c.loop.at + (4 + c.number.result))) fewer
          ∙ place_turn (c.args.wanted - c.loop.counter) c.args.table.now c.loop.at _ (omega arith) (omega (arith, c.number.ensures.0))
          ∙ c.loop.invariant.0,
      whole_next c.args.table.now c.loop.at _ c.loop.invariant.1 (omega (arith, c.number.ensures.0)),
    )
