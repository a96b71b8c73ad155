use Rattle.std.proofs.Common.{map}
use Rattle.table.specs.Words.{word_in}
use Rattle.meaning.proofs.Clauses.{Scanned}
use Rattle.meaning.proofs.literals.clause_state.Given as goal

abbrev pub invariant-loop-literal : goal.invariant-loop-literal
invariant-loop-literal l = Scanned l.values (map word_in l.literals) l.literal-index l.state
