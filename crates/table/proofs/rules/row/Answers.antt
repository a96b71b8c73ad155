-- `table::rules::row` meets its contract.
use Rattle.std.proofs.Common.{◌≡◌, true, sym, ◌∙◌}
use Rattle.table.specs.Tests.{length_right}
use Rattle.table.proofs.RowRule.{long_enough}
use Rattle.table.proofs.rules.row.Goals as goal

pub row_at-requires : goal.row_at-requires
row_at-requires c =
    let fits : length_right c.args.kind 0 c.length.result ≡ true = sym (c.length_fits.ensures 0) ∙ c.if-not-length_fits.false in
    let enough = long_enough c.args.kind 0 c.length.result c.requires.1 fits in
    record { whole = c.args.here.whole; long = rw (← c.requires.0, ← c.length.ensures.0) enough }
