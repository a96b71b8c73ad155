use Rattle.std.proofs.Common.{map, take}
use Rattle.table.specs.Rows.{term_in}
use Rattle.meaning.specs.States.{EndsTold}
use Rattle.meaning.proofs.terms.ends_of.Given as goal

abbrev pub invariant-loop-term : goal.invariant-loop-term
invariant-loop-term l = EndsTold l.values (take l.term-index (map term_in l.terms)) l.least l.most
