-- What is promised of a decision: it is over a variable that is not decided; there is one where not all are decided.
use Rattle.std.specs.Prelude.{Option, MatchOption, length}
use Rattle.meaning.specs.HalfMade.{Values}
use Rattle.choice.specs.Chosen.{AllDecided, Undecided}
use Rattle.choice.specs.declared.choosing.Decision.{Decision}

abbrev pub Decides : Values → Option Decision → Type 0
Decides values choice = MatchOption choice (AllDecided values (length values)) (λ decision. Undecided values decision.variable)
