-- The body of a record, asked for by the record's number (document 01, "What the reviewer gets" and refusal 13).
use Rattle.std.specs.Prelude.{ℕ, zero, suc, ◌+◌, ◌<◌, ◌≤◌, cond, List, [], length, take, drop, nat_lt, Result, Ok, Err}
use Rattle.table.specs.declared.refusals.Refusal.{Refusal}
use Rattle.table.specs.declared.body.Stretch.{Stretch}
use Rattle.table.specs.Rows.{length_at, after}
use Rattle.table.specs.Refusals.{NoRecord, number_of}
use Rattle.table.specs.Reading.{Reading, reading}

-- the place of the record that is `number` records after the one at a place (the first is 0)
unfoldable pub place_of_record : ℕ → List ℕ → ℕ → ℕ
place_of_record zero t at = at
place_of_record (suc number) t at = place_of_record number t (after t at)

-- every record that the walk from a place reaches is whole; so it is in an accepted table, from 0 on
unfoldable pub WholeFrom : List ℕ → ℕ → Type 0
WholeFrom t at = (number : ℕ) → place_of_record number t at < length t → after t (place_of_record number t at) ≤ length t

-- the stretch of the body of the record at a place, or 13 at the table's length where no record stands there
unfoldable pub stretch_at : List ℕ → ℕ → Result Stretch Refusal
stretch_at t at = cond (nat_lt at (length t)) (Ok (record { start = at + 4; length = length_at t at })) (Err (record { fault = NoRecord; place = length t }))

-- the table's own refusal comes first
unfoldable pub stretch_by : Reading → List ℕ → ℕ → Result Stretch Refusal
stretch_by (Ok f) t number = stretch_at t (place_of_record number t 0)
stretch_by (Err r) t number = Err r

-- where the body of the record of a number stands, or why there is none
abbrev pub stretch_of : List ℕ → ℕ → Result Stretch Refusal
stretch_of t number = stretch_by (reading t) t number

-- the bytes of a stretch of the table; none where it is refused
unfoldable pub bytes_of : Result Stretch Refusal → List ℕ → List ℕ
bytes_of (Ok found) t = take found.length (drop found.start t)
bytes_of (Err r) t = []

-- the body of the record of a number
abbrev pub body_of : List ℕ → ℕ → List ℕ
body_of t number = bytes_of (stretch_of t number) t

-- the number that a request for a body returns: 0 where it is found
unfoldable pub number_of_stretch : Result Stretch Refusal → ℕ
number_of_stretch (Ok found) = 0
number_of_stretch (Err r) = number_of r.fault

-- the place that it returns: the body's first byte where it is found, else the refusal's
unfoldable pub place_of_stretch : Result Stretch Refusal → ℕ
place_of_stretch (Ok found) = found.start
place_of_stretch (Err r) = r.place

-- how many bytes the body has: none where it is refused
unfoldable pub size_of_stretch : Result Stretch Refusal → ℕ
size_of_stretch (Ok found) = found.length
size_of_stretch (Err r) = 0
