-- `table::order::are_different` meets its contract.
use Rattle.std.proofs.Common.{◌≡◌, length, map}
use Rattle.table.specs.Words.{word_in}
use Rattle.table.specs.Lists.{all_different}
use Rattle.table.proofs.order.are_different.Given as goal

abbrev pub invariant-loop-first : goal.invariant-loop-first
invariant-loop-first l = all_different (map word_in l.rest) ≡ all_different (map word_in l.words)

abbrev pub decreases-loop-first : goal.decreases-loop-first
decreases-loop-first l = length l.rest
