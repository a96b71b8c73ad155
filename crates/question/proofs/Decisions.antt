-- The decisions of a trail, and the loop that takes some of them back: what it keeps.
use Rattle.std.proofs.Common.{◌≡◌, ℕ, zero, suc, ◌+◌, ◌-◌, ◌<◌, ◌≤◌, Bool, true, false, cond, eqb, List, [], ◌∷◌, length, get_or, set}
use Rattle.std.proofs.Common.{reverse, take, Some, None, refl, sym, ap, ◌∙◌, arith, eq-eqb, ne_eqb, eqb-true}
use Rattle.std.proofs.lemmas.Bool.{eqb-false}
use Rattle.std.proofs.lemmas.List.{length-set, reverse-append, take_more_set}
use Rattle.std.proofs.Math.Seq.{take-suc}
use Rattle.std.proofs.lemmas.List.Elements.{All-tail}
use Rattle.meaning.specs.HalfMade.{Values}
use Rattle.question.specs.declared.trail.Decided.{Decided}
use Rattle.question.specs.Trail.{decisions, EachInside, back_to, values_back, TakenBack}

-- no entry is equal to every one that may be read past a list's end
not_each : (x : Decided) → ((d : Decided) → x ≡ d) → ⊥
not_each x each =
    let e : ◌≡◌ {A = ℕ} 0 1 =
    ap (λ (decided : Decided). decided.variable)
    (sym (each (record { variable = 0; waiting = 0 })) ∙ each (record { variable = 1; waiting = 0 })) in
    omega arith

same_front :
    (entries others : List Decided) (depth : ℕ) →
    ((k : ℕ) (d : Decided) → k < depth → get_or others k d ≡ get_or entries k d) →
    take depth others ≡ take depth entries
same_front entries others zero same = refl
same_front [] [] (suc depth) same = refl
same_front [] (y ∷ others) (suc depth) same = absurd (not_each y (λ d. same 0 d (omega arith)))
same_front (x ∷ entries) [] (suc depth) same = absurd (not_each x (λ d. sym (same 0 d (omega arith))))
same_front (x ∷ entries) (y ∷ others) (suc depth) same =
    let e : y ≡ x = same 0 x (omega arith) in
    let rest : take depth others ≡ take depth entries = same_front entries others depth (λ k d h. same (suc k) d (omega arith)) in
    rw (e, rest) refl

-- trails that are equal in their first entries have the same decisions
pub decisions_same :
    (entries others : List Decided) (depth : ℕ) →
    ((k : ℕ) (d : Decided) → k < depth → get_or others k d ≡ get_or entries k d) →
    decisions others depth ≡ decisions entries depth
decisions_same entries others depth same = ap reverse (same_front entries others depth same)

-- one decision more
pub decisions_more :
    (entries : List Decided) (depth : ℕ) (decision : Decided) →
    depth < length entries →
    decisions (set entries depth decision) (depth + 1) ≡ decision ∷ decisions entries depth
decisions_more entries depth decision h =
    rw (take_more_set entries depth decision h) (reverse-append (take depth entries) (decision ∷ []))

-- the last decision
pub decisions_last :
    (entries : List Decided) (depth : ℕ) (d : Decided) →
    0 < depth →
    depth ≤ length entries →
    decisions entries depth ≡ get_or entries (depth - 1) d ∷ decisions entries (depth - 1)
decisions_last entries depth d some few =
    let e : suc (depth - 1) ≡ depth = omega arith in
    ap (λ (n : ℕ). reverse (take n entries)) (sym e)
    ∙ ap reverse (take-suc entries (depth - 1) d (omega arith))
    ∙ reverse-append (take (depth - 1) entries) (get_or entries (depth - 1) d ∷ [])

-- nothing waits any more for the last decision
pub decisions_turned :
    (entries : List Decided) (depth variable : ℕ) →
    0 < depth →
    depth ≤ length entries →
    decisions (set entries (depth - 1) (record { variable = variable; waiting = 0 })) depth
    ≡ record { variable = variable; waiting = 0 } ∷ decisions entries (depth - 1)
decisions_turned entries depth variable some few =
    let e : depth - 1 + 1 ≡ depth = omega arith in
    rw e at (decisions_more entries (depth - 1) (record { variable = variable; waiting = 0 }) (omega arith))

-- taking decisions back leaves no more of them
pub back_to_most : (trail : List Decided) → length (back_to trail) ≤ length trail
unfolding back_to
back_to_most [] = omega arith
back_to_most (last ∷ earlier) = go (eqb last.waiting 0) (back_to_most earlier)
  where
    go : (none : Bool) → length (back_to earlier) ≤ length earlier → length (cond none (back_to earlier) (last ∷ earlier)) ≤ suc (length earlier)
    go true h = omega (arith, h)
    go false h = omega arith

module _ (trail : List Decided) (values : Values) where
  -- how far the loop has come: what is to be taken back of the decisions that are left is what was to be taken back of all
  pub record TakingBack (left : List Decided) (now-values : Values) : Type 0 where
    pub inside : EachInside now-values left
    pub same_trail : back_to left ≡ back_to trail
    pub same_values : values_back left now-values ≡ values_back trail values

module _ {trail : List Decided} {values : Values} where
  module _ {last : Decided} {earlier : List Decided} {now-values : Values} (taking : TakingBack trail values (last ∷ earlier) now-values) where
    -- both values of the last decision are tried
    pub back_turn : last.waiting ≡ 0 → TakingBack trail values earlier (set now-values last.variable None)
    unfolding back_to values_back
    back_turn e =
        record {
          inside = λ k d h. simp length-set (All-tail (λ decided. decided.variable < length now-values) last earlier taking.inside k d h);
          same_trail = rw (eq-eqb last.waiting 0 e) at taking.same_trail;
          same_values = rw (eq-eqb last.waiting 0 e) at taking.same_values;
        }

    -- rows wait for its other value
    pub back_stop : (last.waiting ≡ 0 → ⊥) → TakenBack trail values (Some last) earlier now-values
    unfolding back_to values_back
    back_stop differ =
        record {
          last = sym (rw (ne_eqb last.waiting 0 differ) at taking.same_trail);
          values_back = rw (ne_eqb last.waiting 0 differ) at taking.same_values;
        }

  -- no decision is left
  pub back_end :
      {left earlier : List Decided} {now-values : Values} →
      TakingBack trail values left now-values →
      (left ≡ []) × (earlier ≡ []) →
      TakenBack trail values None earlier now-values
  unfolding back_to values_back
  back_end taking (none, empty) = record { last = (sym (rw none at taking.same_trail), empty); values_back = rw none at taking.same_values }

-- what holds of a trail and its values still holds when decisions are taken back, if it does after one of which both values are tried
module _ (Holds : List Decided → Values → Type 0)
    (step : (last : Decided) (earlier : List Decided) (values : Values) →
    last.waiting ≡ 0 →
    Holds (last ∷ earlier) values →
    Holds earlier (set values last.variable None)) where
  pub back_keeps : (trail : List Decided) (values : Values) → Holds trail values → Holds (back_to trail) (values_back trail values)
  unfolding back_to values_back
  back_keeps [] values holds = holds
  back_keeps (last ∷ earlier) values holds = go (eqb last.waiting 0) refl (back_keeps earlier (set values last.variable None))
    where
      go :
          (none : Bool) →
          eqb last.waiting 0 ≡ none →
          (Holds earlier (set values last.variable None) → Holds (back_to earlier) (values_back earlier (set values last.variable None))) →
          Holds (cond none (back_to earlier) (last ∷ earlier)) (cond none (values_back earlier (set values last.variable None)) values)
      go true p more = more (step last earlier values (eqb-true last.waiting 0 p) holds)
      go false p more = holds

-- rows wait for the last of the decisions that are left
pub back_waits : (trail : List Decided) (last : Decided) (earlier : List Decided) → back_to trail ≡ last ∷ earlier → 0 < last.waiting
unfolding back_to
back_waits [] last earlier e = let z : ⊥ = cc in absurd z
back_waits (first ∷ more) last earlier e = go (eqb first.waiting 0) refl e (back_waits more last earlier)
  where
    go :
        (none : Bool) →
        eqb first.waiting 0 ≡ none →
        cond none (back_to more) (first ∷ more) ≡ last ∷ earlier →
        (back_to more ≡ last ∷ earlier → 0 < last.waiting) →
        0 < last.waiting
    go true p e later = later e
    go false p e later =
        let same : first ≡ last = cc in
        let some : first.waiting ≡ 0 → ⊥ = eqb-false first.waiting 0 p in
        rw (← same) (omega arith)
