-- The numbers of a selection as bytes, and the loop that stores them.
use Rattle.std.proofs.Common.{ℕ, suc, ◌+◌, ◌*◌, ◌≤◌, ◌<◌, ◌^◌, ◌≡◌, ap, ◌∙◌, Bool, true, false, List, [], ◌∷◌, length, get_or, arith}
use Rattle.std.specs.Int.{to_le_bytes, w16}
use Rattle.std.proofs.lemmas.List.Edits.{sets}
use Rattle.std.proofs.Math.Seq.{length-sets}
use Rattle.preference.specs.Selection.{Selection}
use Rattle.preference.specs.Named.{named}
use Rattle.table.specs.Encoding.{u16, encode_numbers}
use Rattle.report.specs.Written.{NumbersWritten}
use Rattle.report.proofs.Stores.{stored_u16}

-- a selection names no more requests than the order has
pub named_at_most : (order : List ℕ) (flags : Selection) → length (named order flags) ≤ length order
unfolding named
named_at_most [] flags = omega arith
named_at_most (request ∷ order) [] = omega arith
named_at_most (request ∷ order) (true ∷ flags) = let h = named_at_most order flags in omega arith
named_at_most (request ∷ order) (false ∷ flags) = let h = named_at_most order flags in omega arith

-- Where the loop stands: k numbers are stored, and storing those of the requests ahead too gives what storing all would have given.
pub record Progress (order : List ℕ) (flags : Selection) (before : List ℕ) (ahead : List ℕ) (flags_ahead : Selection) (now : List ℕ) (k : ℕ) : Type 0 where
  pub kept : length now ≡ length before
  pub paired : length flags_ahead ≡ length ahead
  pub fit : (i : ℕ) → get_or ahead i 0 < 2 ^ 16
  pub few : k + length ahead ≤ length order
  pub counted : k + length (named ahead flags_ahead) ≡ length (named order flags)
  pub bytes : sets now (12 + 2 * k) (encode_numbers (named ahead flags_ahead)) ≡ sets before 12 (encode_numbers (named order flags))

module _ (order : List ℕ) (flags : Selection) (before : List ℕ) where
  -- a request that is chosen: its number is stored behind the others
  stored_turn :
      {rest now after : List ℕ} {flags_rest : Selection} {k number : ℕ} →
      Progress order flags before (number ∷ rest) (true ∷ flags_rest) now k →
      after ≡ sets now (12 + 2 * k) (u16 number) →
      Progress order flags before rest flags_rest after (k + 1)
  unfolding named encode_numbers u16
  stored_turn {rest} {now} {after} {flags_rest} {k} {number} p stored =
      let place : 12 + 2 * (k + 1) ≡ suc (suc (12 + 2 * k)) = omega arith in
      let numbers : List ℕ = encode_numbers (named rest flags_rest) in
      record {
        kept = ap length stored ∙ length-sets now (12 + 2 * k) (u16 number) ∙ p.kept;
        paired = omega (arith, p.paired);
        fit = λ (i : ℕ). p.fit (suc i);
        few = omega (arith, p.few);
        counted = omega (arith, p.counted);
        bytes =
            ap (λ (x : List ℕ). sets x (12 + 2 * (k + 1)) numbers) stored
            ∙ ap (λ (i : ℕ). sets (sets now (12 + 2 * k) (u16 number)) i numbers) place
            ∙ p.bytes;
      }

  -- one that is not: nothing is stored
  passed_turn :
      {rest now : List ℕ} {flags_rest : Selection} {k number : ℕ} →
      Progress order flags before (number ∷ rest) (false ∷ flags_rest) now k →
      Progress order flags before rest flags_rest now k
  unfolding named
  passed_turn p =
      record {
        kept = p.kept;
        paired = omega (arith, p.paired);
        fit = λ (i : ℕ). p.fit (suc i);
        few = omega (arith, p.few);
        counted = p.counted;
        bytes = p.bytes;
      }

  -- a turn of the loop at a request that is chosen
  pub chosen_turn :
      {ahead rest now after bytes : List ℕ} {flags_ahead flags_rest : Selection} {k number : ℕ} {chosen : Bool} →
      Progress order flags before ahead flags_ahead now k →
      ahead ≡ number ∷ rest →
      flags_ahead ≡ chosen ∷ flags_rest →
      chosen ≡ true →
      bytes ≡ to_le_bytes w16 number →
      after ≡ sets now (12 + 2 * k) bytes →
      Progress order flags before rest flags_rest after (k + 1)
  chosen_turn {now = now} {k = k} p a f c b stored =
      let q = rw (a, f, c) at p in
      stored_turn q (stored_u16 now (12 + 2 * k) b (q.fit 0) stored)

  -- and at one that is not
  pub unchosen_turn :
      {ahead rest now : List ℕ} {flags_ahead flags_rest : Selection} {k number : ℕ} {chosen : Bool} →
      Progress order flags before ahead flags_ahead now k →
      ahead ≡ number ∷ rest →
      flags_ahead ≡ chosen ∷ flags_rest →
      chosen ≡ false →
      Progress order flags before rest flags_rest now k
  unchosen_turn p a f c = passed_turn (rw (a, f, c) at p)

  -- with no request ahead all are stored
  pub progress_ends :
      {ahead now : List ℕ} {flags_ahead : Selection} {k : ℕ} →
      Progress order flags before ahead flags_ahead now k →
      ahead ≡ [] →
      NumbersWritten order flags before now k
  unfolding named encode_numbers
  progress_ends p none = let q = rw none at p in record { counted = omega (arith, q.counted); few = omega (arith, q.few); bytes = q.bytes }
