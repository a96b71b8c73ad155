-- `hainscope::reporting::load` meets its contract.
use Rattle.std.proofs.Common.{◌≡◌, length, take}
use Rattle.table.specs.Words.{words}
use Rattle.hainscope.proofs.reporting.load.Given as goal

abbrev pub invariant-loop-place : goal.invariant-loop-place
invariant-loop-place l = take l.place l.order ≡ take l.place (words (length l.initial.order) l.table l.from)
