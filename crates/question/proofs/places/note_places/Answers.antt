use Rattle.std.proofs.Common.{◌∙◌, arith, length-append}
use Rattle.question.proofs.Noting.{walk_starts, stands_here, role_there, walk_turns}
use Rattle.question.proofs.places.note_places.Goals as goal

pub loop-place-init : goal.loop-place-init
loop-place-init c = rw (c.into_iter-place-iterator.ensures.into_iter_gives ∙ c.of-place-items.ensures) (walk_starts c.args.table.accepted)

pub overflow_cast-places : goal.overflow_cast-places
overflow_cast-places c = omega (arith, stands_here (rw c.in-Some.ensures.steps at c.loop-place.invariant) c.args.table.accepted)

pub number-requires : goal.number-requires
number-requires c = omega (arith, stands_here (rw c.in-Some.ensures.steps at c.loop-place.invariant) c.args.table.accepted)

pub bounds-chosen-number : goal.bounds-chosen-number
bounds-chosen-number c = role_there (rw c.in-Some.ensures.steps at c.loop-place.invariant) c.requires.0 c.number.ensures.0

pub loop-place-preserved : goal.loop-place-preserved
loop-place-preserved c =
    let walked = rw c.in-Some.ensures.steps at c.loop-place.invariant in
    walk_turns walked c.requires.0 (length-append _ _) (omega (arith, stands_here walked c.args.table.accepted)) c.number.ensures.0 c.from-noted.ensures
