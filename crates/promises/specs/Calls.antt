-- The promises of the public calls: for every input one number, and one value behind each reference that is lent.
-- A call is refused with the table's own number and place, or by a test of its own, or it is answered; each way is a field.
use Rattle.std.specs.Prelude.{ℕ, ◌≤◌, ◌≡◌, ◌↔◌, true, false, List, length, Ok, Err}
use Rattle.table.specs.declared.record.Frame.{Frame}
use Rattle.table.specs.declared.refusals.Refusal.{Refusal}
use Rattle.table.specs.Refusals.{number_of}
use Rattle.table.specs.Reading.{reading, number_of_reading, place_of_reading}
use Rattle.table.specs.Body.{stretch_of, number_of_stretch, place_of_stretch, size_of_stretch}
use Rattle.preference.specs.Selection.{all, none}
use Rattle.preference.specs.Question.{Question}
use Rattle.preference.specs.Preference.{PreferredConflict, PreferredRelaxation}
use Rattle.preference.specs.Answer.{Answer}
use Rattle.preference.specs.Asking.{questions_of}
use Rattle.explain.specs.declared.answers.Method.{Method}
use Rattle.explain.specs.declared.answers.Method.TheVariants.{ConflictByHalving, ConflictOneByOne, RelaxationByHalving, RelaxationOneByOne}
use Rattle.explain.specs.Methods.{asked_by}
use Rattle.promises.specs.Selecting.{names_above, SomeSettingMeets}
use Rattle.promises.specs.Reports.{table_question, room_for, place_after, buffer_after}

-- refusals 11 and 12, by name
abbrev pub names_too_much : ℕ
names_too_much = 11

abbrev pub no_room : ℕ
no_room = 12

-- `hainscope_read`: 0 and place 0 for an accepted table, else the number and place of its refusal
pub record ReadCall (t : List ℕ) (number place : ℕ) : Type 0 where
  pub number_is : number ≡ number_of_reading (reading t)
  pub place_is : place ≡ place_of_reading (reading t)

-- `hainscope_body`: 0, the place of the body's first byte and its length; or the number and place of the refusal, and length 0
pub record BodyCall (t : List ℕ) (wanted number size place : ℕ) : Type 0 where
  pub number_is : number ≡ number_of_stretch (stretch_of t wanted)
  pub size_is : size ≡ size_of_stretch (stretch_of t wanted)
  pub place_is : place ≡ place_of_stretch (stretch_of t wanted)

-- what the question returns: its number, answer and place are these
pub record Told (number stands place : ℕ) (number' stands' place' : ℕ) : Type 0 where
  pub number_is : number ≡ number'
  pub stands_is : stands ≡ stands'
  pub place_is : place ≡ place'

-- the answer: 1 exactly where some setting meets the host rows and those of the selected requests, else 0
pub record QuestionAnswered (t : List ℕ) (f : Frame) (selection number stands place : ℕ) : Type 0 where
  pub number_is : number ≡ 0
  pub place_is : place ≡ 0
  pub bit : stands ≤ 1
  pub exactly : stands ≡ 1 ↔ SomeSettingMeets t f selection

-- `hainscope_can_stand`: the table's own refusal, 11, or the answer
pub record CanStandCall (t : List ℕ) (selection number stands place : ℕ) : Type 0 where
  pub refused : (r : Refusal) → reading t ≡ Err r → Told number stands place (number_of r.fault) 0 r.place
  pub too_much : (f : Frame) → reading t ≡ Ok f → names_above f.requests selection ≡ true → Told number stands place names_too_much 0 0
  pub answered : (f : Frame) → reading t ≡ Ok f → names_above f.requests selection ≡ false → QuestionAnswered t f selection number stands place

-- the set of a conflict: the preferred one of Definition 7 where there is one to name (status 1), else none
pub record ConflictSet (ok : Question) (n : ℕ) (answer : Answer) : Type 0 where
  pub preferred : answer.status ≡ 1 → PreferredConflict ok n answer.set
  pub all_stand : answer.status ≡ 0 → answer.set ≡ none n
  pub host_fails : answer.status ≡ 2 → answer.set ≡ none n

-- the set of a relaxation: the preferred one of Definition 4, all where all can stand, none where the host rows cannot
pub record RelaxationSet (ok : Question) (n : ℕ) (answer : Answer) : Type 0 where
  pub preferred : answer.status ≡ 1 → PreferredRelaxation ok n answer.set
  pub all_stand : answer.status ≡ 0 → answer.set ≡ all n
  pub host_fails : answer.status ≡ 2 → answer.set ≡ none n

-- the set of an answer by a method
unfoldable pub SetBy : Method → Question → ℕ → Answer → Type 0
SetBy ConflictByHalving ok n answer = ConflictSet ok n answer
SetBy ConflictOneByOne ok n answer = ConflictSet ok n answer
SetBy RelaxationByHalving ok n answer = RelaxationSet ok n answer
SetBy RelaxationOneByOne ok n answer = RelaxationSet ok n answer

-- an answer to a question about n requests: status 0 exactly when all can stand, status 2 exactly when the host rows cannot, else 1;
-- the set by the definitions of the paper; and the count is the number of questions that the method asks by document 01, as a program that
-- can do nothing but ask
pub record RightAnswer (method : Method) (ok : Question) (n : ℕ) (answer : Answer) : Type 0 where
  pub status : answer.status ≤ 2
  pub all_stand : answer.status ≡ 0 ↔ ok (all n) ≡ true
  pub host_fails : answer.status ≡ 2 ↔ ok (none n) ≡ false
  pub set : SetBy method ok n answer
  pub count : answer.asked ≡ length (questions_of ok (asked_by method n))

-- what a report call leaves: a number, a place and the buffer
pub record Left (number place : ℕ) (buffer : List ℕ) (number' place' : ℕ) (buffer' : List ℕ) : Type 0 where
  pub number_is : number ≡ number'
  pub place_is : place ≡ place'
  pub buffer_is : buffer ≡ buffer'

-- the right answer is written as a record, and the place after it returned
pub record Reported (method : Method) (t : List ℕ) (f : Frame) (buffer : List ℕ) (start number place : ℕ) (after : List ℕ) : Type 0 where
  pub answer : Answer
  pub right : RightAnswer method (table_question t f) f.requests answer
  pub left : Left number place after 0 (place_after t f start answer) (buffer_after method t f buffer start answer)

-- `hainscope_conflict`, `hainscope_relaxation` and their one-by-one fellows: the table's own refusal, 12, or the report;
-- a refused call leaves the buffer as it was
pub record ReportCall (method : Method) (t buffer : List ℕ) (start number place : ℕ) (after : List ℕ) : Type 0 where
  pub refused : (r : Refusal) → reading t ≡ Err r → Left number place after (number_of r.fault) r.place buffer
  pub no_room : (f : Frame) → reading t ≡ Ok f → room_for f.requests buffer start ≡ false → Left number place after no_room 0 buffer
  pub reported : (f : Frame) → reading t ≡ Ok f → room_for f.requests buffer start ≡ true → Reported method t f buffer start number place after
