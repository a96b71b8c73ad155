-- What a caller of the question must know of a selection, beside that the table is accepted.
use Rattle.std.specs.Prelude.{◌<◌, ◌≡◌, Bool, true, false, List, length, get_or}
use Rattle.table.specs.declared.record.Frame.{Frame}

-- the selection has an entry for each role, the host's true
pub record MayAsk (f : Frame) (chosen : List Bool) : Type 0 where
  pub each : f.requests < length chosen
  pub host : get_or chosen 0 false ≡ true
