-- The search works on a copy of the values.
use Rattle.std.proofs.Common.{sym, arith}
use Rattle.std.proofs.lemmas.List.{length-take-le}
use Rattle.table.proofs.Accepted.{accepted_keeps}
use Rattle.question.proofs.Noting.{noted_asked}
use Rattle.question.proofs.Answering.{copied, rows_searched}
use Rattle.question.proofs.search.can_complete.Goals as goal

pub note_places-noted-requires : goal.note_places-noted-requires
note_places-noted-requires c = let kept = accepted_keeps _ _ c.args.table.accepted in (c.requires.0, omega arith)

pub slice_bounds-work-end : goal.slice_bounds-work-end
slice_bounds-work-end c = let kept = accepted_keeps _ _ c.args.table.accepted in omega (arith, c.requires.1)

pub slice_bounds-copy_from_slice-end : goal.slice_bounds-copy_from_slice-end
slice_bounds-copy_from_slice-end c =
    let kept = accepted_keeps _ _ c.args.table.accepted in sym (length-take-le _ _ (omega (arith, c.requires.1)))

pub copy_from_slice-requires : goal.copy_from_slice-requires
copy_from_slice-requires c = let kept = accepted_keeps _ _ c.args.table.accepted in length-take-le _ _ (omega (arith, c.requires.1))

pub complete-requires : goal.complete-requires
complete-requires c = let kept = accepted_keeps _ _ c.args.table.accepted in
    rw (copied c.args.values.now _ _ c.copy_from_slice.ensures.after)
    (noted_asked _ c.args.table.frame _ _ _ _ kept c.note_places-noted.ensures c.requires.1, omega (arith, c.requires.1))

pub returns : goal.returns
returns c = rows_searched c.args.table.bytes.now c.args.table.frame c.args.chosen.now _ _ c.note_places-noted.ensures _ _
    (rw (copied c.args.values.now _ _ c.copy_from_slice.ensures.after) at c.complete.ensures)
