-- What is copied into a part of the list is stored there.
use Rattle.report.proofs.Stores.{stored_part}
use Rattle.report.proofs.bytes.put.Goals as goal

pub returns : goal.returns
returns c = stored_part c.args.part.now c.args.bytes.now c.copy_from_slice.new.self c.args.at c.requires c.copy_from_slice.ensures.after
