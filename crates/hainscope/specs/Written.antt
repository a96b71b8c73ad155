-- What the inner functions of the face give: for those who read the code.
use Rattle.std.specs.Prelude.{ℕ, Bool, cond, List, Result, Ok, Err}
use Rattle.table.specs.declared.record.Frame.{Frame}
use Rattle.table.specs.Kept.{order_of}
use Rattle.preference.specs.Answer.{Answer}
use Rattle.explain.specs.declared.answers.Method.{Method}
use Rattle.explain.specs.Methods.{answer_by}
use Rattle.report.specs.Written.{Written}
use Rattle.hainscope.specs.declared.refused.Refused.{Refused}
use Rattle.hainscope.specs.declared.refused.Refused.TheVariants.{NamesTooMuch}
use Rattle.promises.specs.Selecting.{names_above, can_stand}
use Rattle.promises.specs.Reports.{table_question, kind_by}

-- what asking about a selection tells: it names a request above N, or whether it can stand
unfoldable pub verdict_of : List ℕ → Frame → ℕ → Result Bool Refused
verdict_of t f selection = cond (names_above f.requests selection) (Err NamesTooMuch) (Ok (can_stand t f selection))

-- the answer of a method over an accepted table
abbrev pub table_answer : Method → List ℕ → Frame → Answer
table_answer method t f = answer_by method (table_question t f) f.requests

-- the record of the method's answer stands at the part's start, and ends at `end`
abbrev pub RecordWritten : Method → List ℕ → Frame → List ℕ → List ℕ → ℕ → Type 0
RecordWritten method t f before after end =
    Written (kind_by method) (table_answer method t f).status (table_answer method t f).asked (order_of t f) (table_answer method t f).set before after end
