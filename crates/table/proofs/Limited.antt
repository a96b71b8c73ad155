-- The limits as plain statements are the limits that the tests decide, both ways.
use Rattle.std.proofs.Common.{◌≡◌, ℕ, ◌+◌, ◌*◌, ◌<◌, ◌≤◌, Bool, true, false, not, ◌||◌, eqb, ltb, leb, List, [], ◌∷◌}
use Rattle.std.proofs.Common.{◌++◌, length, ℤ, nat_abs, sym, refl, arith, ltb-true, lt-ltb, ne_eqb, le-leb, leb-true}
use Rattle.std.proofs.lemmas.Bool.{eqb-false, not-true}
use Rattle.table.specs.Lists.{every, among, all_different}
use Rattle.table.specs.Rows.{Term, Row, clause, linear}
use Rattle.table.specs.Limits.{within, term_in_range, row_in_range, order_in_range}
use Rattle.table.specs.Model.{Each, OtherThan, Different, IsI32, LiteralWithin, TermWithin, ClauseWithin, LinearWithin, RowWithin, IsRequest}
use Rattle.table.proofs.Steps.{both}
use Rattle.table.proofs.Accepted.{clash}

-- what holds of each element of two lists holds of each of both together
pub each_append : {A : Type 0} (Holds : A → Type 0) (xs ys : List A) → Each Holds xs → Each Holds ys → Each Holds (xs ++ ys)
unfolding Each
each_append Holds [] ys left right = right
each_append Holds (x ∷ xs) ys left right = (left.0, each_append Holds xs ys left.1 right)

-- what follows from it holds of each element too
pub each_map : {A : Type 0} (Holds Also : A → Type 0) → ((x : A) → Holds x → Also x) → (xs : List A) → Each Holds xs → Each Also xs
unfolding Each
each_map Holds Also so [] each = tt
each_map Holds Also so (x ∷ xs) each = (so x each.0, each_map Holds Also so xs each.1)

module _ {A : Type 0} (test : A → Bool) (Holds : A → Type 0) where
  -- each element passes the test that its statement decides
  pub every_by : ((x : A) → Holds x → test x ≡ true) → (xs : List A) → Each Holds xs → every test xs ≡ true
  unfolding Each
  every_by pass [] each = refl
  every_by pass (x ∷ xs) each = rw (pass x each.0, every_by pass xs each.1)

  pub each_by : ((x : A) → test x ≡ true → Holds x) → (xs : List A) → every test xs ≡ true → Each Holds xs
  unfolding Each
  each_by passed [] e = tt
  each_by passed (x ∷ xs) e = let h = both (test x) (every test xs) e in (passed x h.0, each_by passed xs h.1)

-- within a range
within_by : (low high n : ℕ) → low ≤ n → n < high → within low high n ≡ true
unfolding within
within_by low high n h g = rw (le-leb low n h, lt-ltb n high g)

by_within : (low high n : ℕ) → within low high n ≡ true → (low ≤ n) × (n < high)
unfolding within
by_within low high n e = let h = both (leb low n) (ltb n high) e in (leb-true low n h.0, ltb-true n high h.1)

-- literals
pub literals_pass : (v : ℕ) (literals : List ℕ) → Each (LiteralWithin v) literals → every (within 0 (2 * v)) literals ≡ true
literals_pass v literals each =
    every_by (within 0 (2 * v)) (LiteralWithin v) (λ literal h. within_by 0 (2 * v) literal (omega arith) (omega arith)) literals each

pub literals_passed : (v : ℕ) (literals : List ℕ) → every (within 0 (2 * v)) literals ≡ true → Each (LiteralWithin v) literals
literals_passed v literals e =
    each_by (within 0 (2 * v)) (LiteralWithin v) (λ literal q. let h = by_within 0 (2 * v) literal q in omega arith) literals e

-- terms
term_passes : (v : ℕ) (term : Term) → TermWithin v term → term_in_range v term ≡ true
unfolding term_in_range
term_passes v term h = rw (lt-ltb term.variable v h.variable_within, le-leb (nat_abs term.weight) 1000000 h.weight_within)

term_passed : (v : ℕ) (term : Term) → term_in_range v term ≡ true → TermWithin v term
unfolding term_in_range
term_passed v term e =
    let h = both (ltb term.variable v) (leb (nat_abs term.weight) 1000000) e in
    record { variable_within = ltb-true term.variable v h.0; weight_within = leb-true (nat_abs term.weight) 1000000 h.1 }

-- rows
pub row_passes : (v n : ℕ) (r : Row) → RowWithin v n r → row_in_range v n r ≡ true
unfolding RowWithin row_in_range
row_passes v n (clause role literals) h = rw (le-leb role n h.role_within, literals_pass v literals h.literals_within)
row_passes v n (linear role bound ts) h =
    rw (le-leb role n h.role_within, every_by (term_in_range v) (TermWithin v) (term_passes v) ts h.terms_within)

pub clause_passed : (v n role : ℕ) (literals : List ℕ) → length literals ≤ 64 → row_in_range v n (clause role literals) ≡ true → ClauseWithin v n role literals
unfolding row_in_range
clause_passed v n role literals few e =
    let h = both (leb role n) (every (within 0 (2 * v)) literals) e in
    record { role_within = leb-true role n h.0; few_literals = few; literals_within = literals_passed v literals h.1 }

pub linear_passed :
    (v n role : ℕ) (bound : ℤ) (ts : List Term) →
    IsI32 bound →
    length ts ≤ 20 →
    row_in_range v n (linear role bound ts) ≡ true →
    LinearWithin v n role bound ts
unfolding row_in_range
linear_passed v n role bound ts fits few e =
    let h = both (leb role n) (every (term_in_range v) ts) e in
    record {
      role_within = leb-true role n h.0;
      bound_within = fits;
      few_terms = few;
      terms_within = each_by (term_in_range v) (TermWithin v) (term_passed v) ts h.1;
    }

-- the order's numbers
pub order_passes : (n : ℕ) (order : List ℕ) → Each (IsRequest n) order → order_in_range n order ≡ true
order_passes n order each =
    every_by (within 1 (n + 1)) (IsRequest n) (λ request h. within_by 1 (n + 1) request (omega arith) (omega arith)) order each

pub order_passed : (n : ℕ) (order : List ℕ) → order_in_range n order ≡ true → Each (IsRequest n) order
order_passed n order e =
    each_by (within 1 (n + 1)) (IsRequest n) (λ request q. let h = by_within 1 (n + 1) request q in omega arith) order e

-- a number that stands nowhere in a list
not_among : (x : ℕ) (xs : List ℕ) → Each (OtherThan x) xs → among x xs ≡ false
unfolding Each
not_among x [] each = refl
not_among x (y ∷ ys) each = rw (ne_eqb x y each.0, not_among x ys each.1)

neither : (a b : Bool) → (a || b) ≡ false → (a ≡ false) × (b ≡ false)
neither true b e = clash (sym e)
neither false b e = (refl, e)

among_not : (x : ℕ) (xs : List ℕ) → among x xs ≡ false → Each (OtherThan x) xs
unfolding Each
among_not x [] e = tt
among_not x (y ∷ ys) e = let h = neither (eqb x y) (among x ys) e in (eqb-false x y h.0, among_not x ys h.1)

-- no number twice
pub different_passes : (xs : List ℕ) → Different xs → all_different xs ≡ true
unfolding Different all_different
different_passes [] d = refl
different_passes (x ∷ xs) d = rw (not_among x xs d.0, different_passes xs d.1)

pub different_passed : (xs : List ℕ) → all_different xs ≡ true → Different xs
unfolding Different all_different
different_passed [] e = tt
different_passed (x ∷ xs) e =
    let h = both (not (among x xs)) (all_different xs) e in
    (among_not x xs (not-true (among x xs) h.0), different_passed xs h.1)
