-- A run of words or terms in the table's bytes, as the parts of two or six bytes that the code reads it by.
use Rattle.std.proofs.Common.{◌≡◌, ℕ, zero, suc, ◌+◌, ◌-◌, ◌*◌, ◌/◌, ◌<◌, ◌≤◌, List, [], ◌∷◌, length, take, drop, get_or, map, refl, ap, ◌∙◌, add-zero, arith}
use Rattle.std.proofs.lemmas.List.{get_or-take, get_or-drop, length-take-le, length-drop}
use Rattle.std.specs.List.{slice_range}
use Rattle.std.specs.Simd.{first_chunks}
use Rattle.table.specs.Words.{u16_at, u32_at, i32_at, word_in, words}
use Rattle.table.specs.Rows.{term_at, term_in, terms}

-- the first n bytes of s are those of t from a place on
abbrev pub Same : List ℕ → ℕ → List ℕ → ℕ → Type 0
Same s n t at = (i : ℕ) → i < n → get_or s i 0 ≡ get_or t (at + i) 0

-- a run over the parts of p bytes, said by what one part more adds
module _ {X : Type 0} (p : ℕ) (t : List ℕ) (read : List ℕ → X) (run : ℕ → ℕ → List X)
    (none : (at : ℕ) → [] ≡ run zero at)
    (one_more : (k at : ℕ) (part : List ℕ) → Same part p t at → read part ∷ run k (at + p) ≡ run (suc k) at) where
  run_of : (k : ℕ) (s : List ℕ) (at : ℕ) → Same s (p * k) t at → map read (first_chunks p k s) ≡ run k at
  run_of zero s at same = none at
  run_of (suc k) s at same =
      let first : Same (take p s) p t at = λ i h. get_or-take p s i 0 h ∙ same i (omega arith) in
      let later : Same (drop p s) (p * k) t (at + p) =
      λ i h. let e : at + (p + i) ≡ at + p + i = omega arith in get_or-drop p s i 0 ∙ same (p + i) (omega arith) ∙ ap (λ (j : ℕ). get_or t j 0) e in
      ap (λ (xs : List X). read (take p s) ∷ xs) (run_of k (drop p s) (at + p) later) ∙ one_more k at (take p s) first

  -- the run that stands in the table from a place on
  run_from : (k from n : ℕ) → from + p * k ≤ length t → n ≡ k → map read (first_chunks p n (slice_range t from (from + p * k))) ≡ run k from
  run_from k from n h e =
      let stands : Same (slice_range t from (from + p * k)) (p * k) t from =
      λ i g. get_or-take (from + p * k - from) (drop from t) i 0 (omega arith) ∙ get_or-drop from t i 0 in
      rw e (run_of k (slice_range t from (from + p * k)) from stands)

-- a run of words by its first and the rest
pub words_turn : (k : ℕ) (t : List ℕ) (i : ℕ) → 0 < k → words k t i ≡ u16_at t i ∷ words (k - 1) t (i + 2)
unfolding words
words_turn zero t i h = absurd (omega arith)
words_turn (suc k) t i h = let e : k ≡ suc k - 1 = omega arith in ap (λ (n : ℕ). u16_at t i ∷ words n t (i + 2)) e

-- the bytes of a slice of the table
slice_length : (t : List ℕ) (from n : ℕ) → from + n ≤ length t → length (slice_range t from (from + n)) ≡ n
slice_length t from n h = let g = length-drop from t in length-take-le (from + n - from) (drop from t) (omega (arith, g)) ∙ omega arith

module _ (t : List ℕ) (from k : ℕ) where
  -- the words of the parts of two bytes
  pub words_from :
      from + 2 * k ≤ length t →
      map word_in (first_chunks 2 (length (slice_range t from (from + 2 * k)) / 2) (slice_range t from (from + 2 * k))) ≡ words k t from
  unfolding words u16_at
  words_from h =
      run_from 2 t word_in (λ n at. words n t at) (λ at. refl)
      (λ n at part same. let a = same 0 (omega arith) in let b = same 1 (omega arith) in rw (a, b, add-zero)) k from _ h
      (omega (arith, slice_length t from (2 * k) h))

  -- the terms of the parts of six bytes
  pub terms_from :
      from + 6 * k ≤ length t →
      map term_in (first_chunks 6 (length (slice_range t from (from + 6 * k)) / 6) (slice_range t from (from + 6 * k))) ≡ terms k t from
  unfolding terms term_at i32_at u32_at u16_at
  terms_from h =
      run_from 6 t term_in (λ n at. terms n t at) (λ at. refl) (λ n at part same.
      let three : at + 3 ≡ at + 2 + 1 = omega arith in
      let four : at + 4 ≡ at + 2 + 2 = omega arith in
      let five : at + 5 ≡ at + 2 + 2 + 1 = omega arith in
      rw (
        same 0 (omega arith),
        same 1 (omega arith),
        same 2 (omega arith),
        same 3 (omega arith),
        same 4 (omega arith),
        same 5 (omega arith),
        add-zero,
        three,
        four,
        five,
      )) k from _ h (omega (arith, slice_length t from (6 * k) h))
