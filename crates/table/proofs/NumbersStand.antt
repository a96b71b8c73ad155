-- Bytes are the encoding of what is read from them: the other way round than proofs/Standing.antt.
use Rattle.std.proofs.Common.{◌≡◌, ℕ, zero, suc, ◌+◌, ◌*◌, ◌/◌, ◌%◌, ◌<◌, ◌≤◌, List, [], ◌∷◌, ◌++◌, length, get_or}
use Rattle.std.proofs.Common.{drop, ℤ, pos, negsuc, refl, ap, ◌∙◌, arith, drop-cons, w32, Fits, SFits, to_z}
use Rattle.std.proofs.Math.Facts.{of_z-to_z, sfits_to_z}
use Rattle.table.specs.Words.{u16_at, u32_at, i32_at, words}
use Rattle.table.specs.Rows.{term_at, terms}
use Rattle.table.specs.Model.{Each, IsI32}
use Rattle.table.specs.Encoding.{IsBytes, u16, u32, i32, encode_numbers, encode_term, encode_terms}

-- every place of a list of bytes reads as a byte
pub byte_at : (t : List ℕ) → IsBytes t → (i : ℕ) → get_or t i 0 < 256
unfolding Each
byte_at [] bytes i = omega arith
byte_at (b ∷ t) bytes zero = bytes.0
byte_at (b ∷ t) bytes (suc i) = byte_at t bytes.1 i

-- and a list of which every place does so is one of bytes, as every slice of u8 is
pub bytes_by : (t : List ℕ) → ((i : ℕ) → get_or t i 0 < 256) → IsBytes t
unfolding Each
bytes_by [] below = tt
bytes_by (b ∷ t) below = (below 0, bytes_by t (λ i. below (suc i)))

-- what 32 bits in two's complement hold is an i32
fits_i32 : (z : ℤ) → SFits w32 z → IsI32 z
unfolding IsI32
fits_i32 (pos n) h = h.sfits
fits_i32 (negsuc n) h = h.sfits

module _ (t : List ℕ) (bytes : IsBytes t) where
  -- a word of bytes is a u16
  pub u16_small : (at : ℕ) → u16_at t at < 65536
  unfolding u16_at
  u16_small at = omega (arith, byte_at t bytes at, byte_at t bytes (at + 1))

  -- two bytes are the encoding of their word
  pub u16_stands : (at next : ℕ) → next ≡ at + 2 → next ≤ length t → drop at t ≡ u16 (u16_at t at) ++ drop next t
  unfolding u16 u16_at
  u16_stands at next e h =
      let low = byte_at t bytes at in
      let high = byte_at t bytes (at + 1) in
      let second : suc at ≡ at + 1 = omega arith in
      let third : suc (at + 1) ≡ next = omega arith in
      let low_is : (get_or t at 0 + 256 * get_or t (at + 1) 0) % 256 ≡ get_or t at 0 = omega arith in
      let high_is : (get_or t at 0 + 256 * get_or t (at + 1) 0) / 256 ≡ get_or t (at + 1) 0 = omega arith in
      rw (low_is, high_is, drop-cons t at 0 (omega arith), second, drop-cons t (at + 1) 0 (omega arith), third)

  -- four bytes are the encoding of their u32
  u32_stands : (at next : ℕ) → next ≡ at + 4 → next ≤ length t → drop at t ≡ u32 (u32_at t at) ++ drop next t
  unfolding u32 u32_at u16
  u32_stands at next e h =
      let low = u16_small at in
      let low_is : (u16_at t at + 65536 * u16_at t (at + 2)) % 65536 ≡ u16_at t at = omega arith in
      let high_is : (u16_at t at + 65536 * u16_at t (at + 2)) / 65536 ≡ u16_at t (at + 2) = omega arith in
      rw (low_is, high_is) (u16_stands at (at + 2) refl (omega arith) ∙ ap (λ (l : List ℕ). u16 (u16_at t at) ++ l) (u16_stands (at + 2) next (omega arith) h))

  u32_fits : (at : ℕ) → Fits w32 (u32_at t at)
  unfolding u32_at
  u32_fits at = record { fits = omega (arith, u16_small at, u16_small (at + 2)) }

  -- and of their i32
  pub i32_stands : (at next : ℕ) → next ≡ at + 4 → next ≤ length t → drop at t ≡ i32 (i32_at t at) ++ drop next t
  unfolding i32 i32_at
  i32_stands at next e h = rw (of_z-to_z (u32_fits at)) (u32_stands at next e h)

  pub i32_is : (at : ℕ) → IsI32 (i32_at t at)
  unfolding i32_at
  i32_is at = fits_i32 (to_z w32 (u32_at t at)) (sfits_to_z (u32_fits at))

  -- numbers, one after another
  pub numbers_stand :
      (k at next : ℕ) → next ≡ at + 2 * k → next ≤ length t → drop at t ≡ encode_numbers (words k t at) ++ drop next t
  unfolding words encode_numbers u16
  numbers_stand zero at next e h = let same : next ≡ at = omega arith in rw same
  numbers_stand (suc k) at next e h =
      u16_stands at (at + 2) refl (omega arith)
      ∙ ap (λ (l : List ℕ). u16 (u16_at t at) ++ l) (numbers_stand k (at + 2) next (omega arith) h)

  -- terms, one after another
  pub terms_stand : (k at next : ℕ) → next ≡ at + 6 * k → next ≤ length t → drop at t ≡ encode_terms (terms k t at) ++ drop next t
  unfolding terms term_at encode_terms encode_term i32 u32 u16
  terms_stand zero at next e h = let same : next ≡ at = omega arith in rw same
  terms_stand (suc k) at next e h =
      u16_stands at (at + 2) refl (omega arith)
      ∙ ap (λ (l : List ℕ). u16 (u16_at t at) ++ l)
      (i32_stands (at + 2) (at + 6) (omega arith) (omega arith)
      ∙ ap (λ (l : List ℕ). i32 (i32_at t (at + 2)) ++ l) (terms_stand k (at + 6) next (omega arith) h))
