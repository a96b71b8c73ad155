-- `meaning::terms::ends_of_term` meets its contract.
use Rattle.std.proofs.Common.{◌≡◌, ◌∙◌, FitsSigned, to_z-of_z, w32, arith, rules}
use Rattle.std.proofs.lemmas.Int.{ints}
use Rattle.meaning.proofs.HalfMade.{value_read}
use Rattle.meaning.specs.States.{negative_of, positive_of}
use Rattle.meaning.proofs.Sums.{at_one_end, least_side, most_side, counted_small, sum_fits, term_told}
use Rattle.meaning.proofs.terms.ends_of_term.Goals as goal

pub overflow_add-least : goal.overflow_add-least
overflow_add-least c =
    let weight_fits : FitsSigned w32 c.args.term.weight = search rules in
    let least_fits : FitsSigned w32 c.min.result = search rules in
    sum_fits c.counted-decided.result c.counted.result
    (counted_small c.eq.result c.args.term.weight c.counted-decided.result weight_fits c.counted-decided.ensures).1
    (counted_small c.is_none-undecided.result c.min.result c.counted.result least_fits c.counted.ensures).1

pub overflow_add-most : goal.overflow_add-most
overflow_add-most c =
    let weight_fits : FitsSigned w32 c.args.term.weight = search rules in
    let most_fits : FitsSigned w32 c.max.result = search rules in
    sum_fits c.counted-decided.result c.counted-2.result
    (counted_small c.eq.result c.args.term.weight c.counted-decided.result weight_fits c.counted-decided.ensures).1
    (counted_small c.is_none-undecided.result c.max.result c.counted-2.result most_fits c.counted-2.ensures).1

pub returns : goal.returns
returns c =
    let weight_fits : FitsSigned w32 c.args.term.weight = search rules in
    let least_fits : FitsSigned w32 c.min.result = search rules in
    let most_fits : FitsSigned w32 c.max.result = search rules in
    let whole = to_z-of_z {w = w32} weight_fits in
    let least_weight : c.min.result ≡ negative_of c.args.term.weight = rw whole at c.min.ensures.value ∙ least_side c.args.term.weight in
    let most_weight : c.max.result ≡ positive_of c.args.term.weight = rw whole at c.max.ensures.value ∙ most_side c.args.term.weight in
    let read = value_read c.args.values.now c.args.term.variable c.requires c.is_none-undecided.result c.eq.result c.is_none-undecided.ensures c.eq.ensures in
    let decided = counted_small c.eq.result c.args.term.weight c.counted-decided.result weight_fits c.counted-decided.ensures in
    let least = counted_small c.is_none-undecided.result c.min.result c.counted.result least_fits c.counted.ensures in
    let most = counted_small c.is_none-undecided.result c.max.result c.counted-2.result most_fits c.counted-2.ensures in
    term_told c.args.values.now c.args.term _ _ weight_fits
    (omega (arith, ints, decided.1, least.1)
    ∙ at_one_end negative_of c.args.values.now c.args.term c.counted-decided.result c.counted.result
    (rw (← read.1) decided.0) (rw (← read.0, ← least_weight) least.0))
    (omega (arith, ints, decided.1, most.1)
    ∙ at_one_end positive_of c.args.values.now c.args.term c.counted-decided.result c.counted-2.result
    (rw (← read.1) decided.0) (rw (← read.0, ← most_weight) most.0))
