-- Five numbers stored one after the other are the head.
use Rattle.std.proofs.Common.{arith}
use Rattle.report.proofs.Stores.{stored_u16, stored_u32, five_numbers}
use Rattle.report.proofs.put_head.Goals as goal

pub returns : goal.returns
returns c =
    five_numbers c.args.part.now c.put.new.part c.put-2.new.part c.put-3.new.part c.put-4.new.part c.put-5.new.part
    c.args.head.kind c.args.head.status c.args.head.count c.args.k
    (stored_u16 _ _ c.to_le_bytes.ensures (omega arith) c.put.ensures)
    (stored_u16 _ _ c.to_le_bytes-2.ensures (omega arith) c.put-2.ensures)
    (stored_u16 _ _ c.to_le_bytes-3.ensures (omega arith) c.put-3.ensures)
    (stored_u32 _ _ c.to_le_bytes-4.ensures (omega arith) c.put-4.ensures)
    (stored_u16 _ _ c.to_le_bytes-5.ensures (omega arith) c.put-5.ensures)
