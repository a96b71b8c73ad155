-- The bits of a selection, spread over the requests one by one.
use Rattle.std.proofs.Common.{◌≡◌, ℕ, zero, suc, ◌+◌, ◌-◌, ◌%◌, ◌/◌, ◌≤◌, ◌<◌, Bool, true, eqb, List, [], ◌∷◌, ◌++◌, Ok, Err, length, take}
use Rattle.std.proofs.Common.{drop, set, add-one, length-set, take_all, length-take-le, append-nil, refl, sym, ap, ◌∙◌, arith, eq-eqb, ne_eqb}
use Rattle.std.proofs.lemmas.List.{take_more_set, drop_all}
use borrow.Rule.Slice.PartMut.{put_mid}
use Rattle.table.specs.declared.record.Frame.{Frame}
use Rattle.table.specs.Kept.{rows_of}
use Rattle.meaning.specs.Stands.{stands, by_role}
use Rattle.question.specs.MayAsk.{MayAsk}
use Rattle.hainscope.specs.declared.refused.Refused.TheVariants.{NamesTooMuch}
use Rattle.promises.specs.Selecting.{bits, above, names_above, can_stand}
use Rattle.hainscope.specs.Written.{verdict_of}
use Rattle.promises.proofs.Bits.{length-bits}

-- one bit more
bits_next : (n number : ℕ) → bits (n + 1) number ≡ bits n number ++ eqb (above n number % 2) 1 ∷ []
unfolding bits above
bits_next zero number = refl
bits_next (suc n) number = rw add-one (rw add-one at (ap (λ (xs : List Bool). eqb (number % 2) 1 ∷ xs) (bits_next n (number / 2))))

above_next : (n number : ℕ) → above (n + 1) number ≡ above n number / 2
unfolding above
above_next zero number = refl
above_next (suc n) number = rw add-one (rw add-one at (above_next n (number / 2)))

-- how far the loop has come: the first bits are spread, and what is left of the number is above them
pub record Spreading (selection : ℕ) (initial requests : List Bool) (spread rest : ℕ) : Type 0 where
  pub long : length requests ≡ length initial
  pub so_far : take spread requests ≡ bits spread selection
  pub rest_is : rest ≡ above spread selection

pub spread_starts : (selection : ℕ) (initial : List Bool) → Spreading selection initial initial 0 selection
unfolding bits above
spread_starts selection initial = record { long = refl; so_far = refl; rest_is = refl }

module _ {selection : ℕ} {initial requests : List Bool} {spread rest : ℕ} (far : Spreading selection initial requests spread rest) where
  pub spread_turns : spread < length initial → Spreading selection initial (set requests spread (eqb (rest % 2) 1)) (spread + 1) (rest / 2)
  spread_turns more =
      record {
        long = simp length-set far.long;
        so_far = take_more_set requests spread (eqb (rest % 2) 1) (omega (arith, far.long)) ∙ rw (far.so_far, far.rest_is) (sym (bits_next spread selection));
        rest_is = rw far.rest_is (sym (above_next spread selection));
      }

  pub spread_ends : length initial ≤ spread → spread ≤ length initial → (requests ≡ bits (length initial) selection) × (rest ≡ above (length initial) selection)
  spread_ends none few =
      let all : spread ≡ length initial = omega arith in (
        sym (take_all spread requests (omega (arith, far.long))) ∙ far.so_far ∙ ap (λ (n : ℕ). bits n selection) all,
        far.rest_is ∙ ap (λ (n : ℕ). above n selection) all,
      )

module _ (t : List ℕ) (f : Frame) (selection rest : ℕ) (over : rest ≡ above f.requests selection) where
  -- the selection names a request above N
  pub names_too_much_lem : (rest ≡ 0 → ⊥) → Err NamesTooMuch ≡ verdict_of t f selection
  unfolding verdict_of names_above
  names_too_much_lem h = rw (← over, ne_eqb rest 0 h)

  module _ (chosen : List Bool) (spread : chosen ≡ true ∷ bits f.requests selection) where
    -- the question may be asked
    pub may_ask : MayAsk f chosen
    may_ask = record { each = rw spread (omega (arith, length-bits f.requests selection)); host = rw spread }

    -- and its answer is the selection's
    pub told_is : rest ≡ 0 → (answer : Bool) → answer ≡ stands (rows_of t f) f.variables (by_role chosen) → Ok answer ≡ verdict_of t f selection
    unfolding verdict_of names_above can_stand
    told_is z answer e = rw (← over, eq-eqb rest 0 z) (ap Ok (rw spread at e))

-- the bits are spread behind the host's entry
pub spread_over :
    (chosen : List Bool) (requests selection rest : ℕ) (spread : List Bool) →
    length chosen ≡ requests + 1 →
    (spread ≡ bits (length (take (length (set chosen 0 true) - 1) (drop 1 (set chosen 0 true)))) selection)
    × (rest ≡ above (length (take (length (set chosen 0 true) - 1) (drop 1 (set chosen 0 true)))) selection) →
    (put_mid 1 (length (set chosen 0 true) - 1) (set chosen 0 true) spread ≡ true ∷ bits requests selection) × (rest ≡ above requests selection)
spread_over [] requests selection rest spread each (e, g) = absurd (omega arith)
spread_over (host ∷ chosen) requests selection rest spread each (e, g) =
    let same : length (take (suc (length chosen) - 1) chosen) ≡ requests = length-take-le (suc (length chosen) - 1) chosen (omega arith) ∙ omega arith in
    let none : drop (suc (length chosen) - 1) chosen ≡ [] = drop_all (suc (length chosen) - 1) chosen (omega arith) in
    (rw (none, append-nil, e, same), g ∙ ap (λ (n : ℕ). above n selection) same)
