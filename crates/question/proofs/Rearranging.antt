-- Places rearranged: by an exchange, and what holds of the rows at places also holds where these are rearranged.
use Rattle.std.proofs.Common.{◌≡◌, ℕ, ◌+◌, ◌-◌, ◌<◌, ◌≤◌, List, ◌++◌, length, get_or, set, take, drop, sym, ◌∙◌, ap, arith, IsPermutation, All}
use Rattle.std.proofs.lemmas.List.{take-append-drop, get_or-take, get_or_default, length-take-le}
use Rattle.std.proofs.lemmas.List.Edits.{swap_is}
use Rattle.std.proofs.lemmas.List.Sorted.{IsPermutation-swap, IsPermutation-append_left, All-permutation, length_permutation}
use Rattle.std.proofs.Math.Seq.{take-append-add}
use Rattle.meaning.specs.WholeRows.{RowAsked, RowsAsked}

-- an exchange of two entries rearranges a list
pub exchange_rearranges :
    (list : List ℕ) (one other : ℕ) →
    one < length list →
    other < length list →
    IsPermutation list (set (set list one (get_or list other 0)) other (get_or list one 0))
exchange_rearranges list one other a b = IsPermutation-swap list _ one other a b (swap_is list one other 0 a b)

-- rows that may be read
abbrev pub EachAsked : List ℕ → ℕ → List ℕ → Type 0
EachAsked t variables places = RowsAsked t places (length places) variables

asked_all : (t places : List ℕ) (variables : ℕ) → EachAsked t variables places → All (λ place. RowAsked t place variables) places
asked_all t places variables asked =
    λ k d h. rw (get_or_default places k d 0 h) (asked.each k h)

all_asked : (t places : List ℕ) (variables : ℕ) → All (λ place. RowAsked t place variables) places → EachAsked t variables places
all_asked t places variables all = record { few = omega arith; each = λ i h. all i 0 h }

-- may be read where they are rearranged
pub asked_rearranged : (t before after : List ℕ) (variables : ℕ) → IsPermutation before after → EachAsked t variables before → EachAsked t variables after
asked_rearranged t before after variables moved asked =
    all_asked t after variables (All-permutation (λ place. RowAsked t place variables) before after moved (asked_all t before variables asked))

-- and so may the first of them
pub asked_front : (t places : List ℕ) (few variables : ℕ) → few ≤ length places → EachAsked t variables places → EachAsked t variables (take few places)
asked_front t places few variables h asked =
    let long : length (take few places) ≡ few = length-take-le few places h in
    record { few = omega arith; each = λ i below. let b : i < few = omega arith in rw (get_or-take few places i 0 b) (asked.each i (omega arith)) }

module _ (places front : List ℕ) (few : ℕ) (moved : IsPermutation (take few places) front) where
  -- the first places are rearranged, and the others stay
  pub front_rearranged : IsPermutation places (front ++ drop few places)
  front_rearranged =
      let e : take few places ++ drop few places ≡ places = take-append-drop few places in
      rw e at (IsPermutation-append_left (drop few places) (take few places) front moved)

  -- so that more of the first are rearranged too
  pub more_rearranged : (many : ℕ) → few ≤ many → few ≤ length places → IsPermutation (take many places) (take many (front ++ drop few places))
  more_rearranged many h inside =
      let long : length (take few places) ≡ few = length-take-le few places inside in
      let same : length front ≡ length (take few places) = length_permutation (take few places) front moved in
      let e : length (take few places) + (many - few) ≡ many = omega arith in
      let f : length front + (many - few) ≡ many = omega arith in
      let before : take many places ≡ take few places ++ take (many - few) (drop few places) =
      ap (λ (l : List ℕ). take many l) (sym (take-append-drop few places))
      ∙ ap (λ (n : ℕ). take n (take few places ++ drop few places)) (sym e)
      ∙ take-append-add (take few places) (drop few places) (many - few) in
      let after : take many (front ++ drop few places) ≡ front ++ take (many - few) (drop few places) =
      ap (λ (n : ℕ). take n (front ++ drop few places)) (sym f) ∙ take-append-add front (drop few places) (many - few) in
      rw (before, after) (IsPermutation-append_left (take (many - few) (drop few places)) (take few places) front moved)

-- rows that are left open may be read
pub asked_open :
    {t before after : List ℕ} {left variables : ℕ} →
    IsPermutation before after →
    left ≤ length after →
    EachAsked t variables before →
    EachAsked t variables (take left after)
asked_open {t = t} {before = before} {after = after} {left = left} {variables = variables} moved few asked =
    asked_front t after left variables few (asked_rearranged t before after variables moved asked)
