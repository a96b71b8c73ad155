-- Runs of stores, one after the other.
use Rattle.std.proofs.Common.{ℕ, suc, ◌+◌, ◌-◌, ◌*◌, ◌<◌, ◌≤◌, ◌%◌, ◌/◌, ◌^◌, ◌≡◌, refl, sym, ap, ◌∙◌, add-zero, arith}
use Rattle.std.proofs.Common.{List, [], ◌∷◌, ◌++◌, length, take, drop, set, append_assoc}
use Rattle.std.specs.Int.{to_le_bytes, w16, w32}
use Rattle.std.proofs.lemmas.List.Edits.{sets, sets-eq}
use Rattle.std.proofs.lemmas.List.{drop-drop}
use borrow.Rule.Slice.PartMut.{put_mid}
use Rattle.table.specs.Encoding.{u16, u32}
use Rattle.report.specs.Written.{head_bytes}

-- a run of stores that is cut in two
pub sets-append : (l : List ℕ) (i : ℕ) (front back : List ℕ) → sets l i (front ++ back) ≡ sets (sets l i front) (i + length front) back
sets-append l i [] back = rw add-zero
sets-append l i (x ∷ front) back =
    let e : suc i + length front ≡ i + suc (length front) = omega arith in
    sets-append (set l i x) (suc i) front back ∙ ap (λ (n : ℕ). sets (sets (set l i x) (suc i) front) n back) e

-- bytes copied into a part of a list are stored there
pub stored_part :
    (l bytes copied : List ℕ) (at : ℕ) →
    at + length bytes ≤ length l →
    copied ≡ bytes →
    put_mid at (at + length bytes - at) l copied ≡ sets l at bytes
stored_part l bytes copied at h e =
    let n : length bytes ≡ at + length bytes - at = omega arith in
    sym
    (sets-eq bytes l at h
    ∙ append_assoc (take at l) bytes (drop (at + length bytes) l)
    ∙ ap (λ (x : List ℕ). take at l ++ x)
    (ap (λ (x : List ℕ). x ++ drop (at + length bytes) l) (sym e)
    ∙ ap (λ (x : List ℕ). copied ++ x) (sym (drop-drop (length bytes) at l) ∙ ap (λ (i : ℕ). drop i (drop at l)) n)))

-- std's two bytes of a number are a u16
pub u16_bytes : (number : ℕ) → number < 2 ^ 16 → to_le_bytes w16 number ≡ u16 number
unfolding u16
u16_bytes number h = let e : number / 256 % 256 ≡ number / 256 = omega arith in rw e

-- and its four are a u32
pub u32_bytes : (number : ℕ) → number < 2 ^ 32 → to_le_bytes w32 number ≡ u32 number
unfolding u32 u16
u32_bytes number h =
    let first : number % 256 ≡ number % 65536 % 256 = omega arith in
    let second : number / 256 % 256 ≡ number % 65536 / 256 = omega arith in
    let third : number / 65536 % 256 ≡ number / 65536 % 256 = refl in
    let fourth : number / 16777216 % 256 ≡ number / 65536 / 256 = omega arith in
    cc

-- so what stores std's bytes of a number stores the number
pub stored_u16 :
    (before : List ℕ) (at : ℕ) {after bytes : List ℕ} {number : ℕ} →
    bytes ≡ to_le_bytes w16 number →
    number < 2 ^ 16 →
    after ≡ sets before at bytes →
    after ≡ sets before at (u16 number)
stored_u16 before at {number = number} b fits e = e ∙ ap (λ (x : List ℕ). sets before at x) (b ∙ u16_bytes number fits)

pub stored_u32 :
    (before : List ℕ) (at : ℕ) {after bytes : List ℕ} {number : ℕ} →
    bytes ≡ to_le_bytes w32 number →
    number < 2 ^ 32 →
    after ≡ sets before at bytes →
    after ≡ sets before at (u32 number)
stored_u32 before at {number = number} b fits e = e ∙ ap (λ (x : List ℕ). sets before at x) (b ∙ u32_bytes number fits)

-- the five numbers of the head, stored one after the other
pub five_numbers :
    (l l1 l2 l3 l4 l5 : List ℕ) (kind status count k : ℕ) →
    l1 ≡ sets l 0 (u16 (8 + 2 * k)) →
    l2 ≡ sets l1 2 (u16 kind) →
    l3 ≡ sets l2 4 (u16 status) →
    l4 ≡ sets l3 6 (u32 count) →
    l5 ≡ sets l4 10 (u16 k) →
    l5 ≡ sets l 0 (head_bytes kind status count k)
unfolding head_bytes u32 u16
five_numbers l l1 l2 l3 l4 l5 kind status count k e1 e2 e3 e4 e5 = rw (e5, e4, e3, e2, e1)
