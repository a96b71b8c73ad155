use Rattle.std.proofs.Common.{length, sym, ap, ◌∙◌, arith}
use Rattle.question.proofs.Walking.{walk_done, stands_here, others_left, first_place}
use Rattle.question.proofs.rows.RowsIterator.next.Goals as goal

pub returns-then-self-eq0-clause-steps : goal.returns-then-self-eq0-clause-steps
returns-then-self-eq0-clause-steps c =
    let none = sym c.self.view_is ∙ walk_done c.self.inside.table.bytes.now c.self.inside.at c.if-self-eq0.true in (none, none)

pub overflow_add-self : goal.overflow_add-self
overflow_add-self c = omega (arith, stands_here c.self.invariant c.if-self-eq0.false)

pub number-requires : goal.number-requires
number-requires c = omega (arith, stands_here c.self.invariant c.if-self-eq0.false)

pub overflow_add-self-2 : goal.overflow_add-self-2
overflow_add-self-2 c = omega (arith, stands_here c.self.invariant c.if-self-eq0.false)

pub invariant_of-self : goal.invariant_of-self
invariant_of-self c = others_left c.self.invariant c.if-self-eq0.false (omega (arith, c.number.ensures.0))

pub returns-clause-steps : goal.returns-clause-steps
returns-clause-steps c = sym c.self.view_is ∙ first_place c.self.invariant c.if-self-eq0.false (omega (arith, c.number.ensures.0))

pub returns-clause-goes : goal.returns-clause-goes
returns-clause-goes c = let e = returns-clause-steps c in record { on = λ _. (tt, tt, omega (arith, ap length e)); keeps = tt; rests = λ _. tt }
