use Rattle.std.proofs.Common.{length}
use Rattle.question.proofs.Noting.{Walked}
use Rattle.question.proofs.places.note_places.Given as goal

abbrev pub invariant-loop-place : goal.invariant-loop-place
invariant-loop-place l = Walked l.table.bytes.now l.table.frame l.chosen l.place-iterator (length l.yielded) l.noted l.places
