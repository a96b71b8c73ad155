-- The three demands and the bound, each a statement over all tables; their proofs stand in proofs/.
use Rattle.std.specs.Prelude.{ℕ, ◌+◌, ◌*◌, ◌-◌, ◌≤◌, ◌<◌, ◌^◌, ◌≡◌, ◌↔◌, true, false, List, length, get_or, take, drop, Ok}
use Rattle.table.specs.declared.record.Frame.{Frame}
use Rattle.table.specs.Reading.{reading}
use Rattle.table.specs.Kept.{Kept, order_of}
use Rattle.table.specs.Model.{Model}
use Rattle.table.specs.Encoding.{IsBytes, StandsFor}
use Rattle.preference.specs.Selection.{Selection, all, none, kept, dropped}
use Rattle.preference.specs.Question.{Conflict, Relaxation}
use Rattle.preference.specs.Preference.{PreferredConflict, PreferredRelaxation}
use Rattle.preference.specs.Answer.{Answer, conflict_by_halving, conflict_one_by_one, relaxation_by_halving, relaxation_one_by_one}
use Rattle.preference.specs.Depth.{depths}
use Rattle.explain.specs.declared.answers.Method.{Method}
use Rattle.explain.specs.declared.answers.Method.TheVariants.{ConflictByHalving, ConflictOneByOne, RelaxationByHalving, RelaxationOneByOne}
use Rattle.explain.specs.Asking.{chosen_by}
use Rattle.report.specs.Report.{status_at, count_at, named_at}
use Rattle.promises.specs.Selecting.{names_above, selection_of, SomeSettingMeets, can_stand}
use Rattle.promises.specs.Reports.{table_question, room_for}
use Rattle.promises.specs.Calls.{ReadCall, BodyCall, CanStandCall, ReportCall, RightAnswer, Left, Told}

-- Demand 1: a table is accepted exactly where it is well formed, which is where it stands for a model; so no reading keeps the demands by
-- refusing tables.
pub record TablesAreReadRight : Type 0 where
  pub well_formed : (t : List ℕ) (f : Frame) → reading t ≡ Ok f ↔ Kept t f
  pub stands_for_a_model : (t : List ℕ) → IsBytes t → ((f : Frame) × (reading t ≡ Ok f)) ↔ ((m : Model) × StandsFor t m)

-- Every call has an outcome that keeps its promise, and only one.
pub record EveryCallIsAnswered : Type 0 where
  pub read : (t : List ℕ) → (number : ℕ) × (place : ℕ) × ReadCall t number place
  pub body : (t : List ℕ) (wanted : ℕ) → (number : ℕ) × (size : ℕ) × (place : ℕ) × BodyCall t wanted number size place
  pub can_stand : (t : List ℕ) (selection : ℕ) → (number : ℕ) × (stands : ℕ) × (place : ℕ) × CanStandCall t selection number stands place
  pub report :
      (method : Method) (t buffer : List ℕ) (start : ℕ) →
      (number : ℕ) × (place : ℕ) × (after : List ℕ) × ReportCall method t buffer start number place after

pub record OnlyOneOutcome : Type 0 where
  pub read : (t : List ℕ) (n p n' p' : ℕ) → ReadCall t n p → ReadCall t n' p' → (n ≡ n') × (p ≡ p')
  pub body :
      (t : List ℕ) (wanted n s p n' s' p' : ℕ) → BodyCall t wanted n s p → BodyCall t wanted n' s' p' → (n ≡ n') × (s ≡ s') × (p ≡ p')
  pub can_stand :
      (t : List ℕ) (selection n s p n' s' p' : ℕ) → CanStandCall t selection n s p → CanStandCall t selection n' s' p' → Told n s p n' s' p'
  pub report :
      (method : Method) (t buffer : List ℕ) (start n p : ℕ) (a : List ℕ) (n' p' : ℕ) (a' : List ℕ) →
      ReportCall method t buffer start n p a →
      ReportCall method t buffer start n' p' a' →
      Left n p a n' p' a'

-- a lent selection, as the choice of places of the order about which the methods ask: its question is the public one
pub record AskedInPublic (t : List ℕ) (f : Frame) (selection : ℕ) : Type 0 where
  pub places : Selection
  pub over : length places ≡ f.requests
  pub names : (request : ℕ) → 0 < request → request ≤ f.requests → chosen_by (order_of t f) places request ≡ selection_of f.requests selection request
  pub same_answer : table_question t f places ≡ can_stand t f selection

-- Demand 2, of an accepted table: a selection stands exactly where some setting meets it; every lent selection is among those that the methods
-- choose from; all requests and the host rows alone are the selections 2^N - 1 and 0; halving and one by one give the same sets; there is no
-- conflict exactly when all requests can stand together, and no relaxation exactly when the host's rows cannot; where there is one, the set is
-- the preferred one.
pub record TheSetsAreRight (t : List ℕ) (f : Frame) : Type 0 where
  pub stands_exactly : (selection : ℕ) → can_stand t f selection ≡ true ↔ SomeSettingMeets t f selection
  pub every_selection : (selection : ℕ) → AskedInPublic t f selection
  pub all_requests : table_question t f (all f.requests) ≡ can_stand t f (2 ^ f.requests - 1)
  pub host_alone : table_question t f (none f.requests) ≡ can_stand t f 0
  pub same_conflict : (conflict_by_halving (table_question t f) f.requests).set ≡ (conflict_one_by_one (table_question t f) f.requests).set
  pub same_relaxation : (relaxation_by_halving (table_question t f) f.requests).set ≡ (relaxation_one_by_one (table_question t f) f.requests).set
  pub no_conflict : ((X : Selection) → Conflict (table_question t f) f.requests X → ⊥) ↔ table_question t f (all f.requests) ≡ true
  pub no_relaxation : ((X : Selection) → Relaxation (table_question t f) f.requests X → ⊥) ↔ table_question t f (none f.requests) ≡ false
  pub conflict :
      table_question t f (all f.requests) ≡ false →
      PreferredConflict (table_question t f) f.requests (conflict_by_halving (table_question t f) f.requests).set
  pub relaxation :
      table_question t f (none f.requests) ≡ true →
      PreferredRelaxation (table_question t f) f.requests (relaxation_by_halving (table_question t f) f.requests).set

abbrev pub EveryTableHasTheRightSets : Type 0
EveryTableHasTheRightSets = (t : List ℕ) (f : Frame) → reading t ≡ Ok f → TheSetsAreRight t f

-- two report calls end at one place, and their buffers are equal but for four bytes: the count, which stands six bytes after the start
pub record SameButTheCount (start place place' : ℕ) (after after' : List ℕ) : Type 0 where
  pub same_place : place ≡ place'
  pub same_before : take (start + 6) after ≡ take (start + 6) after'
  pub same_behind : drop (start + 10) after ≡ drop (start + 10) after'

-- Demand 2 by the reports: what halving and one by one write differs in the count alone.
pub record BothMethodsTellOneSet : Type 0 where
  pub conflict :
      (t : List ℕ) (f : Frame) → reading t ≡ Ok f → (buffer : List ℕ) (start : ℕ) → room_for f.requests buffer start ≡ true →
      (n p : ℕ) (a : List ℕ) (n' p' : ℕ) (a' : List ℕ) →
      ReportCall ConflictByHalving t buffer start n p a →
      ReportCall ConflictOneByOne t buffer start n' p' a' →
      SameButTheCount start p p' a a'
  pub relaxation :
      (t : List ℕ) (f : Frame) → reading t ≡ Ok f → (buffer : List ℕ) (start : ℕ) → room_for f.requests buffer start ≡ true →
      (n p : ℕ) (a : List ℕ) (n' p' : ℕ) (a' : List ℕ) →
      ReportCall RelaxationByHalving t buffer start n p a →
      ReportCall RelaxationOneByOne t buffer start n' p' a' →
      SameButTheCount start p p' a a'

-- two tables with equally many requests, the same order and the same standing selections, as the public question tells them
pub record StandAlike (t : List ℕ) (f : Frame) (u : List ℕ) (g : Frame) : Type 0 where
  pub requests : f.requests ≡ g.requests
  pub order : order_of t f ≡ order_of u g
  pub standing : (selection : ℕ) → names_above f.requests selection ≡ false → can_stand t f selection ≡ can_stand u g selection

-- Demand 3: two accepted tables that stand alike give equal reports, byte for byte, count included, by each of the four calls.
abbrev pub ReportsTellNoMore : Type 0
ReportsTellNoMore =
    (t u : List ℕ) (f g : Frame) →
    reading t ≡ Ok f →
    reading u ≡ Ok g →
    StandAlike t f u g →
    (method : Method) (buffer : List ℕ) (start n p : ℕ) (a : List ℕ) (n' p' : ℕ) (a' : List ℕ) →
    ReportCall method t buffer start n p a →
    ReportCall method u buffer start n' p' a' →
    Left n p a n' p' a'

-- The bound: the halving count of an answer is at most 2 + 2kd, k the requests of the conflict, or those that the relaxation drops, and d from
-- the list; with no relaxation it is at most 2.
pub record TheCountIsBounded (t : List ℕ) (f : Frame) : Type 0 where
  pub conflict :
      (answer : Answer) →
      RightAnswer ConflictByHalving (table_question t f) f.requests answer →
      answer.asked ≤ 2 + 2 * (kept answer.set * get_or depths f.requests 0)
  pub relaxation :
      (answer : Answer) →
      RightAnswer RelaxationByHalving (table_question t f) f.requests answer →
      answer.asked ≤ 2 + 2 * (dropped answer.set * get_or depths f.requests 0)
  pub no_relaxation :
      (answer : Answer) → RightAnswer RelaxationByHalving (table_question t f) f.requests answer → answer.status ≡ 2 → answer.asked ≤ 2

abbrev pub EveryCountIsBounded : Type 0
EveryCountIsBounded = (t : List ℕ) (f : Frame) → reading t ≡ Ok f → TheCountIsBounded t f

-- a fact about the bytes that every call of a method with room leaves in the buffer, from the start on
abbrev pub OfEveryReport : Method → List ℕ → List ℕ → ℕ → (List ℕ → Type 0) → Type 0
OfEveryReport method t buffer start Holds = (n p : ℕ) (a : List ℕ) → ReportCall method t buffer start n p a → Holds a

-- The bound by the reports, with status, count and k as they stand in the bytes: a halving count is at most 2 + 2kd, k the requests that a
-- conflict names, or those that a relaxation does not; with no relaxation it is at most 2; and one by one, where it has work to do, asks N + 2.
pub record TheReportsAreBounded (t : List ℕ) (f : Frame) (buffer : List ℕ) (start : ℕ) : Type 0 where
  pub conflict :
      OfEveryReport ConflictByHalving t buffer start (λ a. count_at a start ≤ 2 + 2 * (named_at a start * get_or depths f.requests 0))
  pub relaxation :
      OfEveryReport RelaxationByHalving t buffer start
      (λ a. count_at a start ≤ 2 + 2 * ((f.requests - named_at a start) * get_or depths f.requests 0))
  pub no_relaxation : OfEveryReport RelaxationByHalving t buffer start (λ a. status_at a start ≡ 2 → count_at a start ≤ 2)
  pub conflict_one_by_one : OfEveryReport ConflictOneByOne t buffer start (λ a. status_at a start ≡ 1 → count_at a start ≡ f.requests + 2)
  pub relaxation_one_by_one : OfEveryReport RelaxationOneByOne t buffer start (λ a. status_at a start ≡ 1 → count_at a start ≡ f.requests + 2)

abbrev pub EveryReportIsBounded : Type 0
EveryReportIsBounded =
    (t : List ℕ) (f : Frame) → reading t ≡ Ok f →
    (buffer : List ℕ) (start : ℕ) → room_for f.requests buffer start ≡ true →
    TheReportsAreBounded t f buffer start
