-- The order loaded from the table, the method's answer written, and the report in the lent buffer.
use Rattle.std.proofs.Common.{◌≡◌, ℕ, ◌+◌, ◌*◌, ◌-◌, ◌≤◌, ◌<◌, Bool, true, ◌&&◌, leb, List, [], length, take, drop, set, get_or, map}
use Rattle.std.proofs.Common.{length-drop, take_all, sym, ap, ap₂, subst, ◌∙◌, arith}
use Rattle.std.proofs.lemmas.List.{take_more, take_more_set, get_or-map, length-map}
use Rattle.table.specs.declared.record.Frame.{Frame}
use Rattle.table.specs.declared.accepted_table.AcceptedTable.{AcceptedTable}
use Rattle.table.specs.Limits.{order_in_range}
use Rattle.table.proofs.Accepted.{accepted_keeps}
use Rattle.table.specs.Words.{word_in, words}
use Rattle.table.specs.Kept.{Kept, order_of}
use Rattle.preference.specs.Selection.{Selection}
use Rattle.preference.specs.Answer.{Answer}
use Rattle.explain.specs.declared.answers.Method.{Method}
use Rattle.explain.specs.Asking.{question_of}
use Rattle.explain.specs.Methods.{answer_by, Answers}
use Rattle.report.specs.Written.{Written}
use Rattle.report.proofs.InBuffer.{part_from}
use Rattle.table.proofs.RecordsStand.{length-words}
use Rattle.promises.specs.Reports.{kind_by, room_for}
use Rattle.promises.proofs.Room.{room_within, room_enough}
use Rattle.hainscope.specs.Written.{table_answer, RecordWritten}

-- the words that stand in the table from a place on, as parts of two bytes
module _ (t : List ℕ) (parts : List (List ℕ)) (n from : ℕ) (read : map word_in parts ≡ words n t from) where
  pub parts_long : length parts ≡ n
  parts_long = sym (length-map parts word_in) ∙ ap length read ∙ length-words n t from

  pub part_read : (place w : ℕ) → place < length parts → w ≡ word_in (get_or parts place []) → w ≡ get_or (words n t from) place 0
  part_read place w more e = rw (← read) (e ∙ sym (get_or-map word_in parts place [] 0 more))

-- the words before a place are loaded, and one more is
module _ (order run : List ℕ) (place : ℕ) (same : take place order ≡ take place run) (each : length order ≡ length run) where
  pub load_turns : (w : ℕ) → place < length run → w ≡ get_or run place 0 → take (place + 1) (set order place w) ≡ take (place + 1) run
  load_turns w more e = take_more_set order place w (omega arith) ∙ rw (same, e) (sym (take_more run place 0 more))

  -- all of them are
  pub load_ends : length run ≤ place → order ≡ run
  load_ends none = sym (take_all place order (omega arith)) ∙ same ∙ take_all place run none

-- what an accepted table keeps
pub kept : (table : AcceptedTable) → Kept table.bytes.now table.frame
kept table = accepted_keeps table.bytes.now table.frame table.accepted

module _ (t : List ℕ) (f : Frame) (before order : List ℕ) (each : length before ≡ f.requests) (e : order ≡ words (length before) t (f.order + 4)) where
  -- what was loaded is the table's order
  loaded : order ≡ order_of t f
  loaded = e ∙ ap (λ (n : ℕ). words n t (f.order + 4)) each

  pub loaded_length : length order ≡ f.requests
  loaded_length = ap length loaded ∙ length-words f.requests t (f.order + 4)

  -- its numbers are requests of the table
  pub loaded_numbers : Kept t f → order_in_range f.requests order ≡ true
  loaded_numbers keeps = rw loaded keeps.order_is_in_range

  -- and the answer over it, written as a record, is the table's
  pub answer_written :
      (method : Method) (flags set : Selection) (status asked : ℕ) →
      length flags ≡ f.requests →
      Answers (answer_by method (question_of t f order) (length flags)) (length flags) set status asked →
      (kind : ℕ) (part after : List ℕ) (end : ℕ) →
      kind ≡ kind_by method →
      Written kind status asked order set part after end →
      RecordWritten method t f part after end
  answer_written method flags set status asked l answers kind part after end k w =
      let a : record { status = status; set = set; asked = asked } ≡ table_answer method t f =
      answers.is
      ∙ ap₂ (λ (o : List ℕ) (n : ℕ). answer_by method (question_of t f o) n) loaded l in
      subst (λ (x : Answer). Written (kind_by method) x.status x.asked (order_of t f) x.set part after end) a
      (subst (λ (o : List ℕ). Written (kind_by method) status asked o set part after end) loaded (rw k at w))

module _ (f : Frame) (buffer : List ℕ) (start : ℕ) (room : Bool)
    (e : room ≡ (leb start (length buffer) && leb (12 + 2 * f.requests) (length buffer - start))) where
  -- the room that was tested
  pub is_room : room ≡ room_for f.requests buffer start
  unfolding room_for
  is_room = e

  module _ (h : room ≡ true) where
    pub start_within : start ≤ length buffer
    start_within = room_within f.requests buffer start (sym is_room ∙ h)

    pub enough : 12 + 2 * f.requests ≤ length buffer - start
    enough = room_enough f.requests buffer start (sym is_room ∙ h)

    -- the part from the start on has room for the record
    pub part_ready : 12 + 2 * f.requests ≤ length (take (length buffer - start) (drop start buffer))
    part_ready = rw (part_from buffer start, length-drop) enough

-- the order has as many entries as there are requests
pub order_long : (t : List ℕ) (f : Frame) → length (order_of t f) ≡ f.requests
order_long t f = length-words f.requests t (f.order + 4)
