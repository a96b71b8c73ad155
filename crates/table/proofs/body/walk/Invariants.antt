-- `table::body::walk` meets its contract.
use Rattle.std.proofs.Common.{◌≡◌, ◌-◌}
use Rattle.table.specs.Body.{place_of_record, WholeFrom}
use Rattle.table.proofs.body.walk.Given as goal

abbrev pub invariant-loop : goal.invariant-loop
invariant-loop l = (place_of_record (l.wanted - l.counter) l.table l.at ≡ place_of_record l.wanted l.table 0) × WholeFrom l.table l.at
