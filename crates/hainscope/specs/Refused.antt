-- The refusals of the public calls, and what a call hands back: a number, which is 0 where it is accepted, and a place.
use Rattle.std.specs.Prelude.{ℕ, Bool, cond, Result, Ok, Err}
use Rattle.table.specs.Refusals.{number_of as number_of_fault}
use Rattle.promises.specs.Calls.{names_too_much, no_room}
use Rattle.hainscope.specs.declared.refused.Refused.{Refused}
use Rattle.hainscope.specs.declared.refused.Refused.TheVariants.{Table, NamesTooMuch, NoRoom}

-- the number of a refusal: the table's own, 11 or 12
abbrev pub number_of : Refused → ℕ
number_of (Table refusal) = number_of_fault refusal.fault
number_of NamesTooMuch = names_too_much
number_of NoRoom = no_room

-- its place: the table's own, else 0
abbrev pub place_of : Refused → ℕ
place_of (Table refusal) = refusal.place
place_of NamesTooMuch = 0
place_of NoRoom = 0

-- the number of an answered or refused call
abbrev pub number_told : {A : Type 0} → Result A Refused → ℕ
number_told (Ok answer) = 0
number_told (Err refused) = number_of refused

-- the place of a report call: the one after the record, or the refusal's
abbrev pub end_told : Result ℕ Refused → ℕ
end_told (Ok end) = end
end_told (Err refused) = place_of refused

-- the answer to a question, 1 or 0, and 0 where the call is refused; its place is 0 where it is answered
abbrev pub stands_told : Result Bool Refused → ℕ
stands_told (Ok answer) = cond answer 1 0
stands_told (Err refused) = 0

abbrev pub place_told : Result Bool Refused → ℕ
place_told (Ok answer) = 0
place_told (Err refused) = place_of refused
