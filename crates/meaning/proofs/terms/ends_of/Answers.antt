-- `meaning::terms::ends_of` meets its contract.
use Rattle.std.proofs.Common.{map, [], arith}
use Rattle.std.proofs.lemmas.Int.{ints}
use Rattle.table.specs.Rows.{term_in}
use Rattle.meaning.proofs.Sums.{term_at_hand, term_named, ends_start, ends_turn}
use Rattle.meaning.proofs.terms.ends_of.Goals as goal

pub loop-term-init : goal.loop-term-init
loop-term-init c = ends_start c.args.values.now (map term_in c.args.terms.now)

pub ends_of_term-here-requires : goal.ends_of_term-here-requires
ends_of_term-here-requires c =
    let here = term_at_hand c.args.terms.now c.loop-term.term-index c.term_in.result c.loop-term-test.true c.term_in.ensures.0 in
    rw here.1 (term_named _ _ _ (term_in []) c.requires here.0)

pub loop-term-preserved : goal.loop-term-preserved
loop-term-preserved c =
    let here = term_at_hand c.args.terms.now c.loop-term.term-index c.term_in.result c.loop-term-test.true c.term_in.ensures.0 in
    ends_turn c.args.values.now (map term_in c.args.terms.now) c.loop-term.term-index (term_in []) c.term_in.result _ _ _ _
    here.0 here.1 c.requires.few c.loop-term.invariant c.ends_of_term-here.ensures _ _
    (λ far small. omega (arith, ints)) (λ far small. omega (arith, ints))
