use Rattle.std.proofs.Common.{◌≡◌, true, false, rules, arith}
use Rattle.meaning.specs.declared.state.State.TheVariants.{Open, Fails}
use Rattle.meaning.proofs.OneRow.{asked_whole, asked_named}
use Rattle.question.proofs.Rearranging.{asked_rearranged}
use Rattle.question.proofs.OpenRows.{sorted_turn, row_lost, steps_one}
use Rattle.question.proofs.narrowing.narrow.Goals as goal

pub row_at-requires : goal.row_at-requires
row_at-requires c = rw c.from.ensures (asked_whole _ _ _
    ((asked_rearranged c.args.table.now c.args.places.now c.loop-next.places _ c.loop-next.invariant.1.rearranged c.requires).each
    c.loop-next.next (omega arith)))

pub row_state-state-requires : goal.row_state-state-requires
row_state-state-requires c = rw (c.row_at.ensures, c.from.ensures) (asked_named _ _ _
    ((asked_rearranged c.args.table.now c.args.places.now c.loop-next.places _ c.loop-next.invariant.1.rearranged c.requires).each
    c.loop-next.next (omega arith)))

pub returns-then-eq : goal.returns-then-eq
returns-then-eq c =
    let fails : c.row_state-state.result ≡ Fails = search rules in
    row_lost c.loop-next.invariant.1 c.loop-next.invariant.0 (omega arith)
    (rw (c.row_at.ensures, c.from.ensures) at c.row_state-state.ensures) fails c.swap.ensures.permutation

pub loop-next-preserved : goal.loop-next-preserved
loop-next-preserved c =
    let goes : c.row_state-state.result ≡ Fails → ⊥ = λ e. (let z : true ≡ false = search rules in let w : ⊥ = cc in w) in
    let one : c.row_state-state.result ≡ Open → c.from-kept.result ≡ 1 = λ e. search rules in
    let none : (c.row_state-state.result ≡ Open → ⊥) → c.from-kept.result ≡ 0 = λ n. search rules in (
      omega (arith, steps_one goes one none),
      sorted_turn c.loop-next.invariant.1 c.loop-next.invariant.0 (omega arith)
          (rw (c.row_at.ensures, c.from.ensures) at c.row_state-state.ensures) goes one none,
    )
