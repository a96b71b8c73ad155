-- `table::reading::read` meets its contract.
use Rattle.std.proofs.Common.{◌≡◌, ℕ, ◌+◌, ◌-◌, ◌≤◌, length}
use Rattle.table.specs.Reading.{scan, beginning}
use Rattle.table.proofs.Steps.{Small}
use Rattle.table.proofs.reading.read.Given as goal

abbrev pub invariant-loop-at : goal.invariant-loop-at
invariant-loop-at l =
    (l.at ≤ length l.table)
    × Small l.state.frame
    × ((n : ℕ) × (length l.table ≤ n + l.at) × (scan n l.table l.at l.state ≡ scan (length l.table) l.table 0 beginning))

abbrev pub decreases-loop-at : goal.decreases-loop-at
decreases-loop-at l = length l.table - l.at
