-- The invariant says where the loop stands: storing the numbers of the requests ahead too gives what storing all would have given.
use Rattle.report.proofs.Chosen.{Progress}
use Rattle.report.proofs.numbers.put_numbers.Given as goal

abbrev pub invariant-loop-number : goal.invariant-loop-number
invariant-loop-number l = Progress l.order l.flags l.initial.part l.number-iterator.a.rest.now l.number-iterator.b.rest.now l.part l.k
