-- The walk from record to record that finds a body: it stays among whole records of an accepted table, and past its end it finds none.
use Rattle.std.proofs.Common.{Result, ◌≡◌, ℕ, zero, suc, ◌+◌, ◌-◌, ◌<◌, ◌≤◌, Bool, true, false, ltb, List}
use Rattle.std.proofs.Common.{Ok, Err, [], length, take, drop, refl, ap, arith, ltb-true, le-ltb, lt-ltb}
use Rattle.std.proofs.Math.Nat.{add-sub_cancel_left}
use Rattle.table.specs.declared.record.Frame.{Frame}
use Rattle.table.specs.declared.record.State.{State}
use Rattle.table.specs.declared.refusals.Refusal.{Refusal}
use Rattle.table.specs.declared.body.Stretch.{Stretch}
use Rattle.table.specs.Rows.{length_at, after}
use Rattle.table.specs.Refusals.{NoRecord}
use Rattle.table.specs.Reading.{Reading, scan, beginning, reading}
use Rattle.table.specs.Body.{place_of_record, WholeFrom, stretch_at, stretch_by, stretch_of, bytes_of}
use Rattle.table.proofs.Accepted.{Goes, goes, scan_of_accepted}

-- a later record stands no earlier
place_grows : (number : ℕ) (t : List ℕ) (at : ℕ) → at ≤ place_of_record number t at
unfolding place_of_record
place_grows zero t at = omega arith
place_grows (suc number) t at = let h = place_grows number t (after t at) in omega arith

-- one record further
pub place_turn :
    (number : ℕ) (t : List ℕ) (at next : ℕ) → 0 < number → next ≡ after t at → place_of_record (number - 1) t next ≡ place_of_record number t at
unfolding place_of_record
place_turn zero t at next h f = absurd (omega arith)
place_turn (suc number) t at next h f = let e : suc number - 1 ≡ number = omega arith in rw (e, f)

pub place_here : (number : ℕ) (t : List ℕ) (at : ℕ) → number ≤ 0 → at ≡ place_of_record number t at
unfolding place_of_record
place_here zero t at h = refl
place_here (suc number) t at h = absurd (omega arith)

-- from a whole record the walk comes to whole records
pub whole_here : (t : List ℕ) (at : ℕ) → WholeFrom t at → at < length t → after t at ≤ length t
unfolding WholeFrom place_of_record
whole_here t at whole h = whole 0 h

pub whole_next : (t : List ℕ) (at next : ℕ) → WholeFrom t at → next ≡ after t at → WholeFrom t next
unfolding WholeFrom place_of_record
whole_next t at next whole e = rw e (λ number h. whole (suc number) h)

-- past the end the walk finds no record
pub none_found :
    (t : List ℕ) (at number : ℕ) → length t ≤ at → Err (record { fault = NoRecord; place = length t }) ≡ stretch_at t (place_of_record number t at)
unfolding stretch_at
none_found t at number h =
    let g = place_grows number t at in rw (le-ltb (place_of_record number t at) (length t) (omega arith))

-- before it the record's body is found
pub body_found : (t : List ℕ) (at l : ℕ) → at < length t → l ≡ length_at t at → Ok (record { start = at + 4; length = l }) ≡ stretch_at t at
unfolding stretch_at
body_found t at l h e = rw (lt-ltb at (length t) h, e)

module _ (t : List ℕ) (f : Frame) where
  abbrev WholeAfter : ℕ → Type 0
  WholeAfter n = (at : ℕ) (s : State) → length t ≤ n + at → scan n t at s ≡ Ok f → WholeFrom t at

  whole_by_lem : (n : ℕ) → WholeAfter n → WholeAfter (suc n)
  unfolding WholeFrom place_of_record
  whole_by_lem n rest at s g e number h = by number h
    where
      more : at < length t
      more = omega (arith, place_grows number t at)

      p : Goes (suc n) t at s f
      p = goes (suc n) t at s f more g e

      same_fuel : suc n - 1 ≡ n
      same_fuel = omega arith

      by : (k : ℕ) → place_of_record k t at < length t → after t (place_of_record k t at) ≤ length t
      by zero h = p.passed.whole
      by (suc k) h = rest (after t at) p.next (omega arith) (rw same_fuel at p.rest) k h

  whole_after : (n : ℕ) → WholeAfter n
  unfolding WholeFrom
  whole_after zero at s g e = λ number h. let k = place_grows number t at in absurd (omega arith)
  whole_after (suc n) at s g e = whole_by_lem n (whole_after n) at s g e

-- every record of an accepted table is whole
pub accepted_whole : (t : List ℕ) (f : Frame) → reading t ≡ Ok f → WholeFrom t 0
accepted_whole t f e = whole_after t f (length t) 0 beginning (omega arith) (scan_of_accepted t f e).1

module _ (t : List ℕ) (number : ℕ) where
  -- the stretch in an accepted table is the one that the walk finds
  pub found_in_accepted :
      (f : Frame) (r : Result Stretch Refusal) → reading t ≡ Ok f → r ≡ stretch_at t (place_of_record number t 0) → r ≡ stretch_of t number
  unfolding stretch_by
  found_in_accepted f r e h = rw e h

  -- a refused table has none
  pub refused_body : (refusal : Refusal) → reading t ≡ Err refusal → Err refusal ≡ stretch_of t number
  unfolding stretch_by
  refused_body refusal e = rw e

  within_by : (at : ℕ) (found : Stretch) → WholeFrom t 0 → at ≡ place_of_record number t 0 → stretch_at t at ≡ Ok found → found.start + found.length ≤ length t
  unfolding stretch_at WholeFrom
  within_by at found whole e q = by (ltb at (length t)) refl
    where
      by : (more : Bool) → ltb at (length t) ≡ more → found.start + found.length ≤ length t
      by true h =
          let p : ◌≡◌ {A = Result Stretch Refusal} (Ok (record { start = at + 4; length = length_at t at })) (Ok found) = rw h at q in
          let same : record { start = at + 4; length = length_at t at } ≡ found = cc in
          let a : at + 4 ≡ found.start = ap (λ (s : Stretch). s.start) same in
          let b : length_at t at ≡ found.length = ap (λ (s : Stretch). s.length) same in
          let w = whole number (rw e at (ltb-true at (length t) h)) in
          let w2 : after t at ≤ length t = rw (← e) at w in
          omega arith
      by false h = absurd (cc (rw h at q))

  -- a stretch that is found lies within the table
  pub stretch_within : (found : Stretch) → stretch_of t number ≡ Ok found → found.start + found.length ≤ length t
  unfolding stretch_by
  stretch_within found q = by (reading t) refl
    where
      by : (told : Reading) → reading t ≡ told → found.start + found.length ≤ length t
      by (Ok f) e = within_by (place_of_record number t 0) found (accepted_whole t f e) refl (rw e at q)
      by (Err refusal) e = absurd (cc (rw e at q))

  -- its bytes are the body
  pub body_bytes :
      (found : Stretch) →
      stretch_of t number ≡ Ok found →
      take (found.start + found.length - found.start) (drop found.start t) ≡ bytes_of (stretch_of t number) t
  unfolding bytes_of
  body_bytes found q = rw q (ap (λ (k : ℕ). take k (drop found.start t)) (add-sub_cancel_left found.start found.length))

  -- no byte where it is refused
  pub no_bytes : (refusal : Refusal) → stretch_of t number ≡ Err refusal → [] ≡ bytes_of (stretch_of t number) t
  unfolding bytes_of
  no_bytes refusal q = rw q
