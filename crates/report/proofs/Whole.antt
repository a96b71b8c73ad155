-- The head before the numbers: what stands in the part in the end.
use Rattle.std.proofs.Common.{ℕ, ◌+◌, ◌*◌, ◌≤◌, ◌≡◌, sym, ap, ◌∙◌, List, ◌++◌, append_assoc, arith, length, drop, take, drop_at, length-take-le}
use Rattle.std.proofs.Math.Seq.{sets, sets-eq, length-sets}
use Rattle.preference.specs.Selection.{Selection}
use Rattle.preference.specs.Named.{named}
use Rattle.table.specs.Encoding.{encode_numbers}
use Rattle.report.specs.Written.{head_bytes, NumbersWritten, Written}
use Rattle.table.proofs.Sizes.{length_numbers}
use Rattle.report.proofs.Reports.{head_length, report_headed}

-- what is stored from a list's start on stands before what the list has from there on
from_start : (bytes l : List ℕ) (n : ℕ) → length bytes ≡ n → n ≤ length l → sets l 0 bytes ≡ bytes ++ drop n l
from_start bytes l n e h = let g : 0 + length bytes ≤ length l = omega arith in let z : 0 + length bytes ≡ n = omega arith in
    sets-eq bytes l 0 g ∙ ap (λ (i : ℕ). bytes ++ drop i l) z

-- what is stored from place n on stands there
from_place : (bytes l : List ℕ) (n : ℕ) → n + length bytes ≤ length l → drop n (sets l n bytes) ≡ bytes ++ drop (n + length bytes) l
from_place bytes l n h =
    let g : n ≤ length l = omega arith in
    ap (λ (x : List ℕ). drop n x) (sets-eq bytes l n h ∙ append_assoc (take n l) bytes (drop (n + length bytes) l))
    ∙ drop_at (take n l) (bytes ++ drop (n + length bytes) l) n (length-take-le n l g)

-- the numbers stored, then the head before them
pub whole :
    (kind status count k : ℕ) (order : List ℕ) (flags : Selection) (before between after : List ℕ) →
    12 + 2 * length order ≤ length before →
    NumbersWritten order flags before between k →
    after ≡ sets between 0 (head_bytes kind status count k) →
    Written kind status count order flags before after (12 + 2 * k)
whole kind status count k order flags before between after room w e =
    let numbers : List ℕ = named order flags in
    let n : length (encode_numbers numbers) ≡ 2 * length numbers = length_numbers numbers in
    let counted : k ≡ length numbers = omega (arith, w.counted) in
    let few : k ≤ length order = omega (arith, w.few) in
    let fits : 12 + length (encode_numbers numbers) ≤ length before = omega arith in
    let stored : between ≡ sets before 12 (encode_numbers numbers) = w.bytes in
    let long : length between ≡ length before = ap length stored ∙ length-sets before 12 (encode_numbers numbers) in
    let long_enough : 12 ≤ length between = omega arith in
    let end : 12 + length (encode_numbers numbers) ≡ 12 + 2 * k = omega arith in
    record {
      ends = omega arith;
      within = omega arith;
      bytes =
          e
          ∙ from_start (head_bytes kind status count k) between 12 (head_length kind status count k) long_enough
          ∙ ap (λ (x : List ℕ). head_bytes kind status count k ++ x)
          (ap (λ (x : List ℕ). drop 12 x) stored
          ∙ from_place (encode_numbers numbers) before 12 fits
          ∙ ap (λ (i : ℕ). encode_numbers numbers ++ drop i before) end)
          ∙ sym (append_assoc (head_bytes kind status count k) (encode_numbers numbers) (drop (12 + 2 * k) before))
          ∙ ap (λ (i : ℕ). head_bytes kind status count i ++ encode_numbers numbers ++ drop (12 + 2 * k) before) counted
          ∙ ap (λ (x : List ℕ). x ++ drop (12 + 2 * k) before) (sym (report_headed kind status count numbers));
    }
