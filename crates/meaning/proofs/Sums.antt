-- The weights of a linear row: what one term comes to at both ends, and one turn of the loop that adds them up.
use Rattle.std.proofs.Common.{◌≡◌, refl, sym, ap, ◌∙◌, ℕ, zero, suc, ◌+◌, ◌<◌, ◌≤◌, Bool, true, false, cond, List, [], ◌∷◌, length, take, get_or}
use Rattle.std.proofs.Common.{Option, Some, None, is_none, unwrap_or, ltb-true, ℤ, pos, negsuc, ◌+ℤ◌}
use Rattle.std.proofs.Common.{unsigned_abs, SFits, w32, w64, to_z, of_z, to_z-of_z, map, arith, length-take-le}
use Rattle.std.proofs.Math.IntN.{+ℤ_idl, +ℤ_idr, +ℤ_assoc}
use Rattle.std.specs.Int.{int_min, int_max}
use Rattle.std.proofs.lemmas.Int.{ints, clamps}
use Rattle.std.proofs.lemmas.List.{get_or-map, length-map}
use Rattle.table.specs.declared.terms.Term.{Term}
use Rattle.table.specs.Rows.{term_in}
use Rattle.table.specs.Limits.{term_in_range}
use Rattle.table.proofs.Steps.{both}
use Rattle.meaning.specs.HalfMade.{Values, is_free, is_set}
use Rattle.meaning.specs.States.{negative_of, positive_of, at_end, sum_at_end, EndsTold}
use Rattle.meaning.specs.WholeRows.{TermsNamed}
use Rattle.meaning.proofs.Tested.{every_at}

-- the term at hand, by its bytes
pub term_at_hand :
    (parts : List (List ℕ)) (i : ℕ) (term : Term) →
    i < length parts →
    term ≡ term_in (get_or parts i []) →
    (i < length (map term_in parts)) × (term ≡ get_or (map term_in parts) i (term_in []))
term_at_hand parts i term h e = (rw (length-map parts term_in) h, e ∙ sym (get_or-map term_in parts i [] (term_in []) h))

-- each term names a variable
pub term_named :
    (variables : ℕ) (row_terms : List Term) (i : ℕ) (none : Term) →
    TermsNamed variables row_terms →
    i < length row_terms →
    (get_or row_terms i none).variable < variables
unfolding term_in_range
term_named variables row_terms i none named h = ltb-true _ _ (both _ _ (every_at (term_in_range variables) row_terms none i named.named h)).0

-- both sides of a weight
pub least_side : (weight : ℤ) → int_min weight (pos 0) ≡ negative_of weight
unfolding negative_of
least_side (pos n) = omega (arith, ints, clamps)
least_side (negsuc n) = omega (arith, ints, clamps)

pub most_side : (weight : ℤ) → int_max weight (pos 0) ≡ positive_of weight
unfolding positive_of
most_side (pos n) = omega (arith, ints, clamps)
most_side (negsuc n) = omega (arith, ints, clamps)

-- a term at one end: its weight where its variable is 1, and that side of it where it is not decided
pub at_one_end :
    (side : ℤ → ℤ) (values : Values) (term : Term) (one undecided : ℤ) →
    one ≡ cond (is_set values term.variable) term.weight (pos 0) →
    undecided ≡ cond (is_free values term.variable) (side term.weight) (pos 0) →
    one +ℤ undecided ≡ at_end side values term
unfolding at_end
at_one_end side values term one undecided e f = go (get_or values term.variable (Some false)) e f
  where
    go :
        (value : Option Bool) →
        one ≡ cond (unwrap_or value false) term.weight (pos 0) →
        undecided ≡ cond (is_none value) (side term.weight) (pos 0) →
        one +ℤ undecided ≡ cond (is_none value) (side term.weight) (cond (unwrap_or value false) term.weight (pos 0))
    go None e f = rw (e, f) (+ℤ_idl _)
    go (Some true) e f = rw (e, f) (+ℤ_idr _)
    go (Some false) e f = rw (e, f)

-- what some terms come to, and one more
sum_more :
    (side : ℤ → ℤ) (values : Values) (row_terms : List Term) (i : ℕ) (none : Term) →
    i < length row_terms →
    sum_at_end side values (take (i + 1) row_terms) ≡ sum_at_end side values (take i row_terms) +ℤ at_end side values (get_or row_terms i none)
unfolding sum_at_end
sum_more side values [] i none h = absurd (omega arith)
sum_more side values (term ∷ more) zero none h = +ℤ_idr (at_end side values term) ∙ sym (+ℤ_idl (at_end side values term))
sum_more side values (term ∷ more) (suc i) none h =
    let more_than : suc i + 1 ≡ suc (i + 1) = omega arith in
    rw more_than
    (ap (λ (z : ℤ). at_end side values term +ℤ z) (sum_more side values more i none (omega arith))
    ∙ sym (+ℤ_assoc (at_end side values term) (sum_at_end side values (take i more)) (at_end side values (get_or more i none))))

-- neither side of an i32 weight lies beyond 2^31, and so does neither end of its term
abbrev pub Small : ℤ → Type 0
Small z = unsigned_abs z ≤ 2147483648

whole_small : (weight : ℤ) → SFits w32 weight → Small weight
whole_small (pos n) fits = omega (arith, ints)
whole_small (negsuc n) fits = omega (arith, ints)

-- a weight that counts or not is as small
pub counted_small :
    (counts : Bool) (weight counted : ℤ) →
    SFits w32 weight →
    counted ≡ cond counts (to_z w32 (of_z w32 weight)) (pos 0) →
    (counted ≡ cond counts weight (pos 0)) × Small counted
counted_small true weight counted fits e = (e ∙ to_z-of_z fits, rw (e ∙ to_z-of_z fits) (whole_small weight fits))
counted_small false weight counted fits e = (e, rw e (omega arith))

-- two such numbers add up to an i64
pub sum_fits : (x y : ℤ) → Small x → Small y → SFits w64 (to_z w64 (of_z w64 x) +ℤ to_z w64 (of_z w64 y))
sum_fits x y h g = omega (arith, ints)

negative_small : (weight : ℤ) → Small weight → Small (negative_of weight)
unfolding negative_of
negative_small (pos n) h = omega arith
negative_small (negsuc n) h = h

positive_small : (weight : ℤ) → Small weight → Small (positive_of weight)
unfolding positive_of
positive_small (pos n) h = h
positive_small (negsuc n) h = omega arith

end_small : (side : ℤ → ℤ) (values : Values) (term : Term) → Small term.weight → Small (side term.weight) → Small (at_end side values term)
unfolding at_end
end_small side values term h g = go (is_free values term.variable) (is_set values term.variable)
  where
    go : (free set : Bool) → Small (cond free (side term.weight) (cond set term.weight (pos 0)))
    go true set = g
    go false true = h
    go false false = omega arith

-- a term alone
pub term_told :
    (values : Values) (term : Term) (least most : ℤ) →
    SFits w32 term.weight →
    least ≡ at_end negative_of values term →
    most ≡ at_end positive_of values term →
    EndsTold values (term ∷ []) least most
unfolding sum_at_end
term_told values term least most fits e f =
    let whole : Small term.weight = whole_small term.weight fits in
    record {
      least_told = e ∙ sym (+ℤ_idr _);
      most_told = f ∙ sym (+ℤ_idr _);
      small =
          (rw e (end_small negative_of values term whole (negative_small _ whole)), rw f (end_small positive_of values term whole (positive_small _ whole)));
    }

-- no term
pub ends_start : (values : Values) (row_terms : List Term) → EndsTold values (take 0 row_terms) (pos 0) (pos 0)
unfolding sum_at_end
ends_start values row_terms = record { least_told = refl; most_told = refl; small = (omega arith, omega arith) }

-- the sums of so many terms do not come near the limits of an i64
abbrev pub Far : ℤ → Type 0
Far z = unsigned_abs z ≤ 140737488355328

-- one term more
pub ends_turn :
    (values : Values) (row_terms : List Term) (i : ℕ) (none term : Term) (least most here_least here_most : ℤ) →
    i < length row_terms →
    term ≡ get_or row_terms i none →
    length row_terms < 65536 →
    EndsTold values (take i row_terms) least most →
    EndsTold values (term ∷ []) here_least here_most →
    (next_least next_most : ℤ) →
    (Far least → Small here_least → next_least ≡ least +ℤ here_least) →
    (Far most → Small here_most → next_most ≡ most +ℤ here_most) →
    EndsTold values (take (i + 1) row_terms) next_least next_most
unfolding sum_at_end
ends_turn values row_terms i none term least most here_least here_most h e few so_far here next_least next_most of_least of_most =
    let many : length (take i row_terms) ≡ i = length-take-le i row_terms (omega arith) in
    let more : length (take (i + 1) row_terms) ≡ i + 1 = length-take-le (i + 1) row_terms (omega arith) in
    let f : next_least ≡ least +ℤ here_least = of_least (omega (arith, so_far.small)) (omega (arith, here.small)) in
    let g : next_most ≡ most +ℤ here_most = of_most (omega (arith, so_far.small)) (omega (arith, here.small)) in
    record {
      least_told = rw (f, so_far.least_told, here.least_told, e, +ℤ_idr, sum_more negative_of values row_terms i none h);
      most_told = rw (g, so_far.most_told, here.most_told, e, +ℤ_idr, sum_more positive_of values row_terms i none h);
      small = (omega (arith, ints, so_far.small, here.small), omega (arith, ints, so_far.small, here.small));
    }
