-- The question of an order over an accepted table.
use Rattle.preference.specs.Question.{Question}
use Rattle.explain.specs.declared.ranked.Ranked.{Ranked}
use Rattle.explain.specs.Asking.{question_of}

-- can the chosen requests of the order stand?
abbrev pub question_over : Ranked → Question
question_over ranked = question_of ranked.table.bytes.now ranked.table.frame ranked.order.now
