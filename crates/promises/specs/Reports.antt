-- The report of a method over a table's own order, as it is written (document 01, "The report" and refusal 12).
use Rattle.std.specs.Prelude.{ℕ, ◌+◌, ◌*◌, ◌-◌, Bool, ◌&&◌, List, ◌++◌, leb, length, take, drop}
use Rattle.table.specs.declared.record.Frame.{Frame}
use Rattle.table.specs.Kept.{order_of}
use Rattle.preference.specs.Question.{Question}
use Rattle.preference.specs.Named.{named}
use Rattle.preference.specs.Answer.{Answer}
use Rattle.explain.specs.declared.answers.Method.{Method}
use Rattle.explain.specs.declared.answers.Method.TheVariants.{ConflictByHalving, ConflictOneByOne, RelaxationByHalving, RelaxationOneByOne}
use Rattle.explain.specs.Asking.{question_of}
use Rattle.report.specs.Report.{conflict_kind, relaxation_kind, report_bytes}

-- the question of an accepted table: can these requests of its order stand?
abbrev pub table_question : List ℕ → Frame → Question
table_question t f = question_of t f (order_of t f)

-- kind 16 for a conflict, 17 for a relaxation
unfoldable pub kind_by : Method → ℕ
kind_by ConflictByHalving = conflict_kind
kind_by ConflictOneByOne = conflict_kind
kind_by RelaxationByHalving = relaxation_kind
kind_by RelaxationOneByOne = relaxation_kind

-- the start lies within the buffer, and 12 + 2n bytes are left from it
unfoldable pub room_for : ℕ → List ℕ → ℕ → Bool
room_for n buffer start = leb start (length buffer) && leb (12 + 2 * n) (length buffer - start)

-- the request numbers that an answer's set names, in the order's order
abbrev pub numbers_of : List ℕ → Frame → Answer → List ℕ
numbers_of t f answer = named (order_of t f) answer.set

-- the place after the record of an answer
abbrev pub place_after : List ℕ → Frame → ℕ → Answer → ℕ
place_after t f start answer = start + (12 + 2 * length (numbers_of t f answer))

-- the buffer with the record of an answer in it: bytes before the start and after the record stay
abbrev pub buffer_after : Method → List ℕ → Frame → List ℕ → ℕ → Answer → List ℕ
buffer_after method t f buffer start answer =
    take start buffer
    ++ (report_bytes (kind_by method) answer.status answer.asked (numbers_of t f answer) ++ drop (place_after t f start answer) buffer)
