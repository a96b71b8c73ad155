-- The bits of a lent selection: request r stands at bit r-1, and every choice of n requests is some number's bits.
use Rattle.std.proofs.Common.{ℕ, zero, suc, ◌+◌, ◌*◌, ◌-◌, ◌%◌, ◌/◌, ◌^◌, ◌≤◌, ◌<◌, ◌≡◌, refl, sym, ap, ◌∙◌, ◌↔◌, Bool, true, false}
use Rattle.std.proofs.Common.{cond, not, List, [], ◌∷◌, arith, pow_pos, div-lt_iff_lt-mul, eqb, length, get_or, eq-eqb, eqb-true}
use Rattle.std.proofs.Math.Nat.{pow-succ', div-div-eq-div-mul, div-eq_of_lt}
use borrow.Author.Tests.{not-false}
use Rattle.promises.specs.Selecting.{bits, above, names_above, selection_of}

-- there are n of them
pub length-bits : (n number : ℕ) → length (bits n number) ≡ n
unfolding bits
length-bits zero number = refl
length-bits (suc n) number = ap suc (length-bits n (number / 2))

-- to halve and then to cut off k bits is to cut off one more
halved : (number k : ℕ) → number / 2 / 2 ^ k ≡ number / 2 ^ suc k
halved number k = rw (pow-succ' 2 k) (div-div-eq-div-mul number 2 (2 ^ k))

-- the bit at place k
pub bit_at : (n number k : ℕ) → k < n → get_or (bits n number) k false ≡ eqb (number / 2 ^ k % 2) 1
unfolding bits
bit_at zero number k h = absurd (omega arith)
bit_at (suc n) number zero h = let e : number / 1 ≡ number = omega arith in rw e
bit_at (suc n) number (suc k) h = bit_at n (number / 2) k (omega arith) ∙ ap (λ (m : ℕ). eqb (m % 2) 1) (halved number k)

-- a selection names request r where its bit r-1 is set
pub request_at_its_bit : (n selection r : ℕ) → 0 < r → r ≤ n → selection_of n selection r ≡ eqb (selection / 2 ^ (r - 1) % 2) 1
request_at_its_bit n selection zero h g = absurd (omega arith)
request_at_its_bit n selection (suc r) h g = let e : suc r - 1 ≡ r = omega arith in rw e (bit_at n selection r (omega arith))

-- what is left above the first n bits
pub above_is : (n number : ℕ) → above n number ≡ number / 2 ^ n
unfolding above
above_is zero number = omega arith
above_is (suc n) number = above_is n (number / 2) ∙ halved number n

-- a number names no request above n exactly where it is below 2 ^ n
pub names_none_above : (n number : ℕ) → names_above n number ≡ false ↔ number < 2 ^ n
unfolding names_above
names_none_above n number = (
  λ e.
      let z : number / 2 ^ n ≡ 0 = sym (above_is n number) ∙ eqb-true (above n number) 0 (not-false (eqb (above n number) 0) e) in
      let h : number / 2 ^ n < 1 = omega arith in
      let g : number < 1 * 2 ^ n = (div-lt_iff_lt-mul (pow_pos n)).0 h in
      omega arith,
  λ h. ap not (eq-eqb (above n number) 0 (above_is n number ∙ div-eq_of_lt h)),
)

-- the number of a list of flags: the first is worth 1, and each the double of the one before
unfoldable pub number_of_flags : List Bool → ℕ
number_of_flags [] = 0
number_of_flags (flag ∷ flags) = cond flag 1 0 + 2 * number_of_flags flags

-- the number's half is the number of the other flags
half_of : (flag : Bool) (rest : ℕ) → (cond flag 1 0 + 2 * rest) / 2 ≡ rest
half_of true rest = omega arith
half_of false rest = omega arith

-- and its lowest bit the first flag
low_of : (flag : Bool) (rest : ℕ) → eqb ((cond flag 1 0 + 2 * rest) % 2) 1 ≡ flag
low_of true rest = let e : (1 + 2 * rest) % 2 ≡ 1 = omega arith in rw e
low_of false rest = let e : (0 + 2 * rest) % 2 ≡ 0 = omega arith in rw e

-- the flags are the bits of their number
pub bits_of_number : (flags : List Bool) → bits (length flags) (number_of_flags flags) ≡ flags
unfolding bits number_of_flags
bits_of_number [] = refl
bits_of_number (flag ∷ flags) = rw (low_of flag (number_of_flags flags), half_of flag (number_of_flags flags), bits_of_number flags)

-- which has nothing above them
pub nothing_above : (flags : List Bool) → above (length flags) (number_of_flags flags) ≡ 0
unfolding above number_of_flags
nothing_above [] = refl
nothing_above (flag ∷ flags) = ap (λ (m : ℕ). above (length flags) m) (half_of flag (number_of_flags flags)) ∙ nothing_above flags

-- the number whose bits are these n flags, and that names no request above n
pub record LentAs (n : ℕ) (flags : List Bool) : Type 0 where
  pub selection : ℕ
  pub bits_are : bits n selection ≡ flags
  pub none_above : names_above n selection ≡ false

-- every list of n flags is the bits of some number that names no request above n
pub bits_of_some_number : (n : ℕ) (flags : List Bool) → length flags ≡ n → LentAs n flags
unfolding names_above
bits_of_some_number n flags e =
    record { selection = number_of_flags flags; bits_are = rw (← e) (bits_of_number flags); none_above = rw (← e, nothing_above flags) }
