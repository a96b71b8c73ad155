-- `hainscope::reporting::write_answer` meets its contract.
use Rattle.std.proofs.Common.{arith}
use Rattle.hainscope.proofs.Writing.{kept, loaded_length, loaded_numbers}
use Rattle.hainscope.proofs.reporting.write_answer.Goals as goal

pub overflow_add-table : goal.overflow_add-table
overflow_add-table c = omega (arith, kept c.args.table)

pub load-requires : goal.load-requires
load-requires c = omega (arith, kept c.args.table)

pub invariant_of-answer : goal.invariant_of-answer
invariant_of-answer c = record {
  numbers = loaded_numbers c.args.table.bytes.now c.args.table.frame c.args.order.now _ c.requires.1 c.load.ensures (kept c.args.table);
  few = omega (arith, kept c.args.table, loaded_length c.args.table.bytes.now c.args.table.frame c.args.order.now _ c.requires.1 c.load.ensures);
}
