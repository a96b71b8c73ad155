-- What stands at a place of some bytes: where the bytes from a place on begin with the encoding of a number, the definitions of specs/ read that number
-- there, and the bytes after it follow.
use Rattle.std.proofs.Common.{◌≡◌, ℕ, zero, suc, ◌+◌, ◌*◌, ◌≤◌, List, [], ◌∷◌, ◌++◌, length, get_or, drop, ℤ, pos, negsuc, nat_abs, sym}
use Rattle.std.proofs.Common.{refl, ap, ◌∙◌, add-zero, arith, length-drop, get_or-drop, drop-drop, drop_at, to_z-of_z, w32, SFits, of_z}
use Rattle.table.specs.Words.{u16_at, u32_at, i32_at, words, total}
use Rattle.table.specs.Rows.{Term, term_at, terms}
use Rattle.table.specs.Model.{Each, IsI32, TermWithin}
use Rattle.table.specs.Encoding.{u16, u32, i32, encode_numbers, encode_term, encode_terms, sum_of_words}

module _ (t : List ℕ) (at : ℕ) where
  -- what follows the bytes at a place
  pub past : (xs rest : List ℕ) (next : ℕ) → next ≡ at + length xs → drop at t ≡ xs ++ rest → drop next t ≡ rest
  past xs rest next e h = rw (e, ← drop-drop (length xs) at t, h) (drop_at xs rest (length xs) refl)

  -- bytes that stand at a place lie within the table
  pub within_table : (x : ℕ) (xs : List ℕ) → drop at t ≡ x ∷ xs → at + length (x ∷ xs) ≡ length t
  within_table x xs h = let e = sym (length-drop at t) ∙ ap length h in omega arith

  -- two bytes are a word
  pub pair_read : (low high : ℕ) (rest : List ℕ) → drop at t ≡ low ∷ high ∷ rest → u16_at t at ≡ low + 256 * high
  unfolding u16_at
  pair_read low high rest h =
      let first : get_or t at 0 ≡ low = rw add-zero at (sym (get_or-drop at t 0 0) ∙ ap (λ (l : List ℕ). get_or l 0 0) h) in
      let second : get_or t (at + 1) 0 ≡ high = sym (get_or-drop at t 1 0) ∙ ap (λ (l : List ℕ). get_or l 1 0) h in
      rw (first, second)

  -- a u16
  pub u16_read : (n : ℕ) (rest : List ℕ) → drop at t ≡ u16 n ++ rest → u16_at t at ≡ n
  unfolding u16
  u16_read n rest h = let read = pair_read _ _ rest h in omega arith

-- the bytes after a u16
pub past_u16 : (t : List ℕ) (at n : ℕ) (rest : List ℕ) (next : ℕ) → next ≡ at + 2 → drop at t ≡ u16 n ++ rest → drop next t ≡ rest
unfolding u16
past_u16 t at n rest next e h = past t at (u16 n) rest next e h

-- a u32
pub u32_read : (t : List ℕ) (at n : ℕ) (rest : List ℕ) → drop at t ≡ u32 n ++ rest → u32_at t at ≡ n
unfolding u32_at u32 u16
u32_read t at n rest h =
    let low = pair_read t at _ _ _ h in
    let high = pair_read t (at + 2) _ _ _ (past t at (_ ∷ _ ∷ []) _ (at + 2) refl h) in
    omega arith

-- the limits of an i32 are those of 32 bits in two's complement
pub i32_fits : (z : ℤ) → IsI32 z → SFits w32 z
unfolding IsI32
i32_fits (pos n) h = record { sfits = h }
i32_fits (negsuc n) h = record { sfits = h }

pub weight_fits : (z : ℤ) → nat_abs z ≤ 1000000 → IsI32 z
unfolding IsI32
weight_fits (pos n) h = omega arith
weight_fits (negsuc n) h = omega arith

-- an i32
pub i32_read : (t : List ℕ) (at : ℕ) (z : ℤ) (rest : List ℕ) → IsI32 z → drop at t ≡ i32 z ++ rest → i32_at t at ≡ z
unfolding i32_at i32
i32_read t at z rest fits h = rw (u32_read t at (of_z w32 z) rest h) (to_z-of_z (i32_fits z fits))

-- the bytes after an i32
pub past_i32 : (t : List ℕ) (at : ℕ) (z : ℤ) (rest : List ℕ) (next : ℕ) → next ≡ at + 4 → drop at t ≡ i32 z ++ rest → drop next t ≡ rest
unfolding i32 u32 u16
past_i32 t at z rest next e h = past t at (i32 z) rest next e h

-- numbers, one after another
pub numbers_read : (t : List ℕ) (ns : List ℕ) (at : ℕ) (rest : List ℕ) → drop at t ≡ encode_numbers ns ++ rest → words (length ns) t at ≡ ns
unfolding words encode_numbers u16
numbers_read t [] at rest h = refl
numbers_read t (n ∷ ns) at rest h =
    let first = u16_read t at n (encode_numbers ns ++ rest) h in
    let later = numbers_read t ns (at + 2) rest (past_u16 t at n (encode_numbers ns ++ rest) (at + 2) refl h) in
    cc

-- terms, one after another
pub terms_read :
    (v : ℕ) (t : List ℕ) (ts : List Term) (at : ℕ) (rest : List ℕ) →
    Each (TermWithin v) ts →
    drop at t ≡ encode_terms ts ++ rest →
    terms (length ts) t at ≡ ts
unfolding terms term_at encode_terms encode_term i32 u32 u16 Each
terms_read v t [] at rest each h = refl
terms_read v t (term ∷ ts) at rest each h =
    let after-variable = past_u16 t at term.variable (i32 term.weight ++ (encode_terms ts ++ rest)) (at + 2) refl h in
    let first = u16_read t at term.variable (i32 term.weight ++ (encode_terms ts ++ rest)) h in
    let second = i32_read t (at + 2) term.weight (encode_terms ts ++ rest) (weight_fits term.weight each.0.weight_within) after-variable in
    let later =
    terms_read v t ts (at + 6) rest each.1
    (past_i32 t (at + 2) term.weight (encode_terms ts ++ rest) (at + 6) (omega arith) after-variable)
    in
    rw (first, second, later)

-- words from a place on add up to the sum of the bytes that stand there
pub sum_read :
    (k : ℕ) (t : List ℕ) (at : ℕ) (xs rest : List ℕ) → length xs ≡ 2 * k → drop at t ≡ xs ++ rest → total (words k t at) ≡ sum_of_words xs
unfolding words total sum_of_words
sum_read zero t at [] rest e h = refl
sum_read zero t at (x ∷ xs) rest e h = absurd (omega arith)
sum_read (suc k) t at [] rest e h = absurd (omega arith)
sum_read (suc k) t at (x ∷ []) rest e h = absurd (omega arith)
sum_read (suc k) t at (x ∷ y ∷ xs) rest e h =
    let first = pair_read t at x y (xs ++ rest) h in
    let later = sum_read k t (at + 2) xs rest (omega arith) (past t at (x ∷ y ∷ []) (xs ++ rest) (at + 2) refl h) in
    omega arith
