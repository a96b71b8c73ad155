use Rattle.std.proofs.Common.{Bool, Option, None, replicate, sym}
use Rattle.std.proofs.lemmas.List.{length-take-le}
use Rattle.table.specs.Limits.{most_variables}
use Rattle.table.proofs.Accepted.{accepted_keeps}
use Rattle.meaning.proofs.HalfMade.{all_free}
use Rattle.question.proofs.Answering.{answered}
use Rattle.question.proofs.search.can_stand.Goals as goal

pub slice_bounds-values-end : goal.slice_bounds-values-end
slice_bounds-values-end c = (accepted_keeps _ _ c.args.table.accepted).few_variables

pub slice_bounds-can_complete-end : goal.slice_bounds-can_complete-end
slice_bounds-can_complete-end c = sym (length-take-le _ _ (accepted_keeps _ _ c.args.table.accepted).few_variables)

pub can_complete-requires : goal.can_complete-requires
can_complete-requires c = (c.requires, length-take-le _ _ (accepted_keeps _ _ c.args.table.accepted).few_variables)

pub returns : goal.returns
returns c = let few = (accepted_keeps _ _ c.args.table.accepted).few_variables in
    answered c.args.table.bytes.now c.args.table.frame c.args.chosen.now _ _
    (length-take-le c.args.table.frame.variables (replicate {A = Option Bool} most_variables None) few)
    (all_free most_variables c.args.table.frame.variables few) c.can_complete.ensures
