-- The two halves of a part: both lie within the flags, and both are smaller than the part.
use Rattle.std.proofs.Common.{ℕ, ◌+◌, ◌≤◌, ◌<◌, ◌≡◌, ap, Bool, cond, true, false, arith}
use mir.Val.{bool_byte}
use Rattle.explain.specs.declared.span.Span.{Span}
use Rattle.explain.specs.Parts.{Halved}

-- entering a part asks one question, where it is to be asked
pub one_question : (asking : Bool) {asked : ℕ} → asked ≡ bool_byte asking → (asked ≡ cond asking 1 0) × (asked ≤ 1)
one_question true e = (e, omega arith)
one_question false e = (e, omega arith)

module _ {from count : ℕ} {first second : Span} (halved : Halved from count first second) where
  -- both halves lie within the flags
  pub within : (limit : ℕ) → from + count ≤ limit → (first.from + first.count ≤ limit) × (second.from + second.count ≤ limit)
  within limit h =
      let a = ap (λ (s : Span). s.from) halved.first_is in
      let b = ap (λ (s : Span). s.count) halved.first_is in
      let c = ap (λ (s : Span). s.from) halved.second_is in
      let d = ap (λ (s : Span). s.count) halved.second_is in
      omega arith

  -- both halves of more than one request are smaller
  pub smaller : 0 < count → (count ≡ 1 → ⊥) → (first.count < count) × (second.count < count)
  smaller some more =
      let a = ap (λ (s : Span). s.count) halved.first_is in
      let b = ap (λ (s : Span). s.count) halved.second_is in
      omega arith
