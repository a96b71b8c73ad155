-- `explain::halving::halve_conflict` meets its contract.
use Rattle.std.proofs.Common.{◌∙◌, arith, refl}
use Rattle.explain.specs.Ranking.{question_over}
use Rattle.explain.proofs.Halves.{one_question, within, smaller}
use Rattle.explain.proofs.ConflictParts.{gives_nothing, gives_the_request, is_cut, second_ready, first_ready, few_in_both, part_within}
use Rattle.explain.proofs.halving.+halve_conflict.Goals as goal

pub returns-then-ground_fails : goal.returns-then-ground_fails
returns-then-ground_fails t c = gives_nothing (question_over c.args.ranked.now) c.args.part.from c.args.part.count c.args.asking
    c.args.flags.now c.ground_fails.result c.ground_fails.ensures c.requires.1.some c.if-ground_fails.true

pub bounds-flags-part : goal.bounds-flags-part
bounds-flags-part t c = omega (arith, part_within c.requires.1, c.requires.1.some)

pub returns-then-part-eq1 : goal.returns-then-part-eq1
returns-then-part-eq1 t c = gives_the_request (question_over c.args.ranked.now) c.args.part.from c.args.part.count c.args.asking
    c.args.flags.now c.ground_fails.result c.ground_fails.ensures
    c.if-ground_fails.false c.from-asked.result c.from-asked.ensures c.if-part-eq1.true

pub halves-requires : goal.halves-requires
halves-requires t c = omega (arith, part_within c.requires.1)

pub fill-requires : goal.fill-requires
fill-requires t c = omega (arith, within c.halves.ensures _ (part_within c.requires.1))

pub halve_conflict-second-requires : goal.halve_conflict-second-requires
halve_conflict-second-requires t c = (
  omega (arith, smaller c.halves.ensures c.requires.1.some c.if-part-eq1.false),
  (c.fill.auto.flags ∙ c.requires.0, second_ready c.halves.ensures c.requires.1 c.if-part-eq1.false c.fill.ensures),
)

pub fill-requires-2 : goal.fill-requires-2
fill-requires-2 t c = omega (
  arith,
  within c.halves.ensures _ (part_within c.requires.1),
  c.fill.auto.flags,
  c.halve_conflict-second.auto.flags,
)

pub halve_conflict-first-requires : goal.halve_conflict-first-requires
halve_conflict-first-requires t c = (
  omega (arith, smaller c.halves.ensures c.requires.1.some c.if-part-eq1.false),
  (
    c.fill-2.auto.flags ∙ c.halve_conflict-second.auto.flags ∙ c.fill.auto.flags ∙ c.requires.0,
    first_ready c.halves.ensures c.requires.1 c.if-part-eq1.false c.fill.ensures (question_over c.args.ranked.now)
        c.halve_conflict-second.ensures c.fill-2.ensures,
  ),
)

pub overflow_add-result : goal.overflow_add-result
overflow_add-result t c = omega (
  arith,
  few_in_both c.halves.ensures c.requires.1 c.if-part-eq1.false c.fill.ensures (question_over c.args.ranked.now)
      c.halve_conflict-second.ensures c.fill-2.ensures _ c.halve_conflict-first.ensures,
  c.args.ranked.now.few,
  c.requires.0,
)

pub overflow_add-result-2 : goal.overflow_add-result-2
overflow_add-result-2 t c = omega (
  arith,
  few_in_both c.halves.ensures c.requires.1 c.if-part-eq1.false c.fill.ensures (question_over c.args.ranked.now)
      c.halve_conflict-second.ensures c.fill-2.ensures _ c.halve_conflict-first.ensures,
  c.args.ranked.now.few,
  c.requires.0,
)

pub overflow_add-result-3 : goal.overflow_add-result-3
overflow_add-result-3 t c = omega (
  arith,
  few_in_both c.halves.ensures c.requires.1 c.if-part-eq1.false c.fill.ensures (question_over c.args.ranked.now)
      c.halve_conflict-second.ensures c.fill-2.ensures _ c.halve_conflict-first.ensures,
  one_question c.args.asking c.from-asked.ensures,
  c.args.ranked.now.few,
  c.requires.0,
)

pub returns : goal.returns
returns t c = is_cut c.halves.ensures c.requires.1 c.if-part-eq1.false c.fill.ensures (question_over c.args.ranked.now)
    c.halve_conflict-second.ensures c.fill-2.ensures _ c.halve_conflict-first.ensures refl
    c.args.asking c.ground_fails.result c.ground_fails.ensures c.if-ground_fails.false
    c.from-asked.result c.from-asked.ensures _ refl
