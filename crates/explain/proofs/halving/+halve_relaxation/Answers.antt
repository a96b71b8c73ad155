-- `explain::halving::halve_relaxation` meets its contract.
use Rattle.std.proofs.Common.{◌∙◌, arith, refl}
use Rattle.explain.specs.Ranking.{question_over}
use Rattle.explain.proofs.Halves.{one_question, smaller}
use Rattle.explain.proofs.RelaxationParts.{keeps_the_part, drops_the_request, is_cut, first_ready, second_ready, few_in_both, out_within}
use Rattle.explain.proofs.halving.+halve_relaxation.Goals as goal

pub returns-then-stands_whole : goal.returns-then-stands_whole
returns-then-stands_whole t c = keeps_the_part (question_over c.args.ranked.now) c.args.part.from c.args.part.count c.args.asking
    c.args.flags.now _ c.stands_whole.result c.stands_whole.ensures c.requires.1.some c.if-stands_whole.true

pub returns-then-part-eq1 : goal.returns-then-part-eq1
returns-then-part-eq1 t c = drops_the_request (question_over c.args.ranked.now) c.args.part.from c.args.part.count c.args.asking
    c.args.flags.now _ c.stands_whole.result c.stands_whole.ensures
    c.if-stands_whole.false c.from-asked.result c.from-asked.ensures c.if-part-eq1.true

pub halves-requires : goal.halves-requires
halves-requires t c = omega (arith, out_within c.requires.1)

pub halve_relaxation-first-requires : goal.halve_relaxation-first-requires
halve_relaxation-first-requires t c = (
  omega (arith, (smaller c.halves.ensures c.requires.1.some c.if-part-eq1.false).0),
  (
    c.stands_whole.auto.flags ∙ c.requires.0,
    first_ready c.halves.ensures c.requires.1 c.if-part-eq1.false (question_over c.args.ranked.now)
        c.stands_whole.ensures c.if-stands_whole.false,
  ),
)

pub halve_relaxation-second-requires : goal.halve_relaxation-second-requires
halve_relaxation-second-requires t c = (
  omega (arith, (smaller c.halves.ensures c.requires.1.some c.if-part-eq1.false).1),
  (
    c.halve_relaxation-first.auto.flags ∙ c.stands_whole.auto.flags ∙ c.requires.0,
    second_ready c.halves.ensures c.requires.1 c.if-part-eq1.false (question_over c.args.ranked.now)
        c.stands_whole.ensures c.if-stands_whole.false c.halve_relaxation-first.ensures,
  ),
)

pub overflow_add-result : goal.overflow_add-result
overflow_add-result t c = omega (
  arith,
  few_in_both c.halves.ensures c.requires.1 c.if-part-eq1.false (question_over c.args.ranked.now)
      c.stands_whole.ensures c.if-stands_whole.false c.halve_relaxation-first.ensures _ c.halve_relaxation-second.ensures,
  c.args.ranked.now.few,
  c.requires.0,
)

pub overflow_add-result-2 : goal.overflow_add-result-2
overflow_add-result-2 t c = omega (
  arith,
  few_in_both c.halves.ensures c.requires.1 c.if-part-eq1.false (question_over c.args.ranked.now)
      c.stands_whole.ensures c.if-stands_whole.false c.halve_relaxation-first.ensures _ c.halve_relaxation-second.ensures,
  c.args.ranked.now.few,
  c.requires.0,
)

pub overflow_add-result-3 : goal.overflow_add-result-3
overflow_add-result-3 t c = omega (
  arith,
  few_in_both c.halves.ensures c.requires.1 c.if-part-eq1.false (question_over c.args.ranked.now)
      c.stands_whole.ensures c.if-stands_whole.false c.halve_relaxation-first.ensures _ c.halve_relaxation-second.ensures,
  one_question c.args.asking c.from-asked.ensures,
  c.args.ranked.now.few,
  c.requires.0,
)

pub returns : goal.returns
returns t c = is_cut c.halves.ensures c.requires.1 c.if-part-eq1.false (question_over c.args.ranked.now)
    c.stands_whole.ensures c.if-stands_whole.false c.halve_relaxation-first.ensures
    _ c.halve_relaxation-second.ensures refl c.from-asked.result c.from-asked.ensures
