-- The four methods by name, each with its definition in the crate `preference`.
use Rattle.std.specs.Prelude.{ℕ, ◌+◌, ◌*◌, ◌≤◌, ◌<◌, ◌≡◌, false, []}
use Rattle.preference.specs.Selection.{Selection, all, none}
use Rattle.preference.specs.Question.{Question}
use Rattle.preference.specs.Part.{Part}
use Rattle.preference.specs.Cut.{middle}
use Rattle.preference.specs.OneByOne.{one_conflict, one_relax}
use Rattle.preference.specs.Halving.{halve_conflict, halve_relax}
use Rattle.preference.specs.Asking.{Asking, Finding, ask_conflict_by_halving, ask_conflict_one_by_one, ask_relaxation_by_halving, ask_relaxation_one_by_one}
use Rattle.preference.specs.Answer.{Answer, answered, conflict_by_halving, conflict_one_by_one, relaxation_by_halving, relaxation_one_by_one}
use Rattle.explain.specs.declared.answers.Method.{Method}
use Rattle.explain.specs.declared.answers.Method.TheVariants.{ConflictByHalving, ConflictOneByOne, RelaxationByHalving, RelaxationOneByOne}
use Rattle.explain.specs.declared.answers.Begun.{Begun}
use Rattle.explain.specs.declared.answers.Begun.TheVariants.{AllStand, HostFails, Open}
use Rattle.explain.specs.declared.answers.Status.{Status}
use Rattle.explain.specs.declared.answers.Status.TheVariants as status

-- the answer of a method to a question about n requests
unfoldable pub answer_by : Method → Question → ℕ → Answer
answer_by ConflictByHalving ok n = conflict_by_halving ok n
answer_by ConflictOneByOne ok n = conflict_one_by_one ok n
answer_by RelaxationByHalving ok n = relaxation_by_halving ok n
answer_by RelaxationOneByOne ok n = relaxation_one_by_one ok n

-- the method as a program that can do nothing but ask: its questions are the ones that a count counts
unfoldable pub asked_by : Method → ℕ → Asking Finding
asked_by ConflictByHalving n = ask_conflict_by_halving n
asked_by ConflictOneByOne n = ask_conflict_one_by_one n
asked_by RelaxationByHalving n = ask_relaxation_by_halving n
asked_by RelaxationOneByOne n = ask_relaxation_one_by_one n

-- its set where all can stand: no conflict, or the whole as relaxation
unfoldable pub whole_by : Method → ℕ → Selection
whole_by ConflictByHalving n = none n
whole_by ConflictOneByOne n = none n
whole_by RelaxationByHalving n = all n
whole_by RelaxationOneByOne n = all n

-- its own work, after the shared start
unfoldable pub worked_by : Method → Question → ℕ → Part
worked_by ConflictByHalving ok n = halve_conflict ok (middle n) 0 false []
worked_by ConflictOneByOne ok n = one_conflict ok n []
worked_by RelaxationByHalving ok n = halve_relax ok (middle n) [] 0 false
worked_by RelaxationOneByOne ok n = one_relax ok [] n

-- what the start makes of the answer
unfoldable pub finished : Begun → ℕ → Selection → Part → Answer
finished AllStand n whole worked = record { status = 0; set = whole; asked = 1 }
finished (HostFails asked) n whole worked = record { status = 2; set = none n; asked = asked }
finished Open n whole worked = record { status = 1; set = worked.set; asked = 2 + worked.asked }

-- the number of a status in a report (document 01, "The report")
abbrev pub number_of : Status → ℕ
number_of status.AllStand = 0
number_of status.NotAllStand = 1
number_of status.HostFails = 2

-- the flags after the start, where it leaves the method to go on from
unfoldable pub left_by : Begun → ℕ → Selection
left_by AllStand n = all n
left_by (HostFails asked) n = none n
left_by Open n = none n

-- a start that found requests to work on, or asked no more than twice
unfoldable pub BegunWell : Begun → ℕ → Type 0
BegunWell AllStand n = Unit
BegunWell (HostFails asked) n = asked ≤ 2
BegunWell Open n = 0 < n

-- the start goes as document 01 says, whatever the method's whole and work are
pub record Begins (ok : Question) (n : ℕ) (begun : Begun) (exit : Selection) : Type 0 where
  pub answer : (whole : Selection) (worked : Part) → answered ok n whole worked ≡ finished begun n whole worked
  pub left : exit ≡ left_by begun n
  pub well : BegunWell begun n

-- an answer over n requests, its set in the flags: it is the one that is wanted, with small numbers
pub record Answers (wanted : Answer) (n : ℕ) (exit : Selection) (status asked : ℕ) : Type 0 where
  pub is : record { status = status; set = exit; asked = asked } ≡ wanted
  pub small_status : status ≤ 2
  pub few_asked : asked ≤ 2 + 2 * n
