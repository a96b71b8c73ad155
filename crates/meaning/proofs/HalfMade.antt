-- Half-made settings: one more variable decided, all of them, and none.
use Rattle.std.proofs.Common.{◌≡◌, refl, sym, ap, ◌∙◌, ℕ, zero, suc, ◌<◌, ◌≤◌, ◌⊎◌, inl, inr, Bool, true, false, not, true≢false, [], ◌∷◌}
use Rattle.std.proofs.Common.{Option, Some, None, is_none, unwrap_or, is_some, eqb, ltb, eqb-true, ltb-true, ltb-false, arith}
use Rattle.std.proofs.Common.{length, get_or, set, take, replicate, length-set, get_or-set_same, get_or-set_other, set-set, get_or-take, length-take-le}
use mathlib.Core.Bool.{beq, false≢true}
use Rattle.std.specs.Option.{option_eq}
use Rattle.std.proofs.lemmas.List.{get_or_default}
use lib.ListN.{length-replicate, get_or-replicate, get_or-eq_default}
use lib.Seq.{set-get_or}
use borrow.Author.Tests.{eqb-false}
use Rattle.meaning.specs.Meaning.{Setting, value_of}
use Rattle.meaning.specs.HalfMade.{Values, is_free, is_set, Agrees, undecided}

-- the setting that gives every undecided variable 0
pub settled : Values → Setting
settled [] = []
settled (value ∷ more) = unwrap_or value false ∷ settled more

settled_length : (values : Values) → length (settled values) ≡ length values
unfolding settled
settled_length [] = refl
settled_length (value ∷ more) = ap suc (settled_length more)

settled_at : (values : Values) (variable : ℕ) → get_or (settled values) variable false ≡ is_set values variable
unfolding settled
settled_at [] variable = refl
settled_at (value ∷ more) zero = refl
settled_at (value ∷ more) (suc variable) = settled_at more variable

pub settled_agrees : (values : Values) → Agrees values (settled values)
settled_agrees values = record { each = settled_length values; decided = λ variable h. settled_at values variable }

-- a value that is not decided is none
pub free_none : (value : Option Bool) → is_none value ≡ true → value ≡ None
free_none None e = refl
free_none (Some value) e = absurd (true≢false (sym e))

-- what is read of a value, undecided or 1
pub value_read :
    (values : Values) (variable : ℕ) →
    variable < length values →
    (free one : Bool) →
    is_some (get_or values variable None) ≡ not free →
    one ≡ option_eq beq (get_or values variable None) (Some true) →
    (free ≡ is_free values variable) × (one ≡ is_set values variable)
value_read values variable inside free one e f =
    let same = get_or_default values variable None (Some false) inside in go (get_or values variable (Some false)) free (rw same at e) (rw same at f)
  where
    go :
        (value : Option Bool) (free : Bool) →
        is_some value ≡ not free →
        one ≡ option_eq beq value (Some true) →
        (free ≡ is_none value) × (one ≡ unwrap_or value false)
    go None true e f = (refl, f)
    go None false e f = absurd (false≢true e)
    go (Some value) true e f = absurd (true≢false e)
    go (Some true) false e f = (refl, f)
    go (Some false) false e f = (refl, f)

-- no variable beyond the last is free
pub none_beyond : (values : Values) (variable : ℕ) → length values ≤ variable → is_free values variable ≡ false
none_beyond values variable beyond = rw (get_or-eq_default values (Some false) {n = variable} beyond)

pub free_below : (values : Values) → ((other : ℕ) → other < length values → is_free values other ≡ false) → (other : ℕ) → is_free values other ≡ false
free_below values none other = go (ltb other (length values)) refl
  where
    go : (less : Bool) → ltb other (length values) ≡ less → is_free values other ≡ false
    go true p = none other (ltb-true other (length values) p)
    go false p = none_beyond values other (ltb-false other (length values) p)

-- where none is decided, every setting of that length agrees
pub free_agrees :
    (values : Values) (setting : Setting) →
    length setting ≡ length values →
    ((other : ℕ) → other < length values → is_free values other ≡ true) →
    Agrees values setting
free_agrees values setting h free = record { each = h; decided = λ variable decided. go variable decided (ltb variable (length values)) refl }
  where
    go :
        (variable : ℕ) →
        is_free values variable ≡ false →
        (less : Bool) →
        ltb variable (length values) ≡ less →
        get_or setting variable false ≡ is_set values variable
    go variable decided true p = absurd (true≢false (sym (free variable (ltb-true variable (length values) p)) ∙ decided))
    go variable decided false p =
        let above : length values ≤ variable = ltb-false variable (length values) p in
        rw (get_or-eq_default values (Some false) {n = variable} above) (get_or-eq_default setting false {n = variable} (omega arith))

-- a list of which no entry is decided
pub all_free :
    (most v : ℕ) →
    v ≤ most →
    (other : ℕ) →
    other < length (take v (replicate {A = Option Bool} most None)) →
    is_free (take v (replicate most None)) other ≡ true
all_free most v h other below =
    let long : length (take v (replicate {A = Option Bool} most None)) ≡ v =
    length-take-le v (replicate {A = Option Bool} most None) (omega (arith, length-replicate {A = Option Bool} most None)) in
    rw (
      get_or-take v (replicate {A = Option Bool} most None) other (Some false) (omega arith),
      get_or-replicate {A = Option Bool} most other None (Some false) (omega arith),
    )

fewer : (values : Values) (variable : ℕ) (value : Bool) → is_free values variable ≡ true → undecided (set values variable (Some value)) < undecided values
unfolding undecided value_of
fewer [] variable value free = absurd (false≢true free)
fewer (x ∷ more) zero value free = rw free (omega arith)
fewer (x ∷ more) (suc variable) value free = omega (arith, fewer more variable value free)

one_at_most : (is-it : Bool) → value_of is-it ≤ 1
unfolding value_of
one_at_most true = omega arith
one_at_most false = omega arith

-- at most all are undecided
pub undecided_most : (values : Values) → undecided values ≤ length values
unfolding undecided
undecided_most [] = omega arith
undecided_most (x ∷ more) = omega (arith, one_at_most (is_none x), undecided_most more)

-- one more at most where one variable is changed
pub undecided_changed : (values : Values) (variable : ℕ) (value : Option Bool) → undecided (set values variable value) ≤ suc (undecided values)
unfolding undecided
undecided_changed [] variable value = omega arith
undecided_changed (x ∷ more) zero value = omega (arith, one_at_most (is_none value))
undecided_changed (x ∷ more) (suc variable) value = omega (arith, undecided_changed more variable value)

-- as many where a decided variable is given another value
pub undecided_turned :
    (values : Values) (variable : ℕ) (value : Bool) → is_free values variable ≡ false → undecided (set values variable (Some value)) ≡ undecided values
unfolding undecided
undecided_turned [] variable value decided = refl
undecided_turned (x ∷ more) zero value decided = rw decided
undecided_turned (x ∷ more) (suc variable) value decided = rw (undecided_turned more variable value decided)

-- a setting has the decided values also where one is taken back
pub agrees_freed :
    (values : Values) (variable : ℕ) (setting : Setting) → variable < length values → Agrees values setting → Agrees (set values variable None) setting
agrees_freed values variable setting inside agrees = record { each = simp length-set agrees.each; decided = λ other h. go other h (eqb other variable) refl }
  where
    go :
        (other : ℕ) →
        is_free (set values variable None) other ≡ false →
        (here : Bool) →
        eqb other variable ≡ here →
        get_or setting other false ≡ is_set (set values variable None) other
    go other h true p =
        let s : other ≡ variable = eqb-true other variable p in
        absurd (true≢false (rw (s, get_or-set_same values variable None (Some false) inside) at h))
    go other h false p =
        let same : get_or (set values variable None) other (Some false) ≡ get_or values other (Some false) =
        get_or-set_other values variable other None (Some false) (eqb-false other variable p) in
        rw same (agrees.decided other (rw same at h))

module _ (values : Values) (variable : ℕ) (inside : variable < length values) (free : is_free values variable ≡ true) where
  -- fewer variables are undecided once it is decided
  pub fewer_undecided : (value : Bool) → undecided (set values variable (Some value)) < undecided values
  fewer_undecided value = fewer values variable value free

  -- a setting with one decided value more has the decided values
  pub agrees_without : (value : Option Bool) (setting : Setting) → Agrees (set values variable value) setting → Agrees values setting
  agrees_without value setting agrees =
      record {
        each = simp length-set at agrees.each;
        decided = λ other h.
            let differ : other ≡ variable → ⊥ = λ e. let f : is_free values variable ≡ false = rw e at h in true≢false (sym free ∙ f) in
            let same : get_or (set values variable value) other (Some false) ≡ get_or values other (Some false) =
            get_or-set_other values variable other value (Some false) differ in
            rw same at (agrees.decided other (rw same h));
      }

  -- one that gives the variable this value has one decided value more
  pub agrees_with :
      (value : Bool) (setting : Setting) → Agrees values setting → get_or setting variable false ≡ value → Agrees (set values variable (Some value)) setting
  agrees_with value setting agrees e = record { each = simp length-set agrees.each; decided = λ other h. go other h (eqb other variable) refl }
    where
      go :
          (other : ℕ) →
          is_free (set values variable (Some value)) other ≡ false →
          (here : Bool) →
          eqb other variable ≡ here →
          get_or setting other false ≡ is_set (set values variable (Some value)) other
      go other h true p =
          let s : other ≡ variable = eqb-true other variable p in
          rw (s, get_or-set_same values variable (Some value) (Some false) inside) e
      go other h false p =
          let same : get_or (set values variable (Some value)) other (Some false) ≡ get_or values other (Some false) =
          get_or-set_other values variable other (Some value) (Some false) (eqb-false other variable p) in
          rw same (agrees.decided other (rw same at h))

  -- the variable is made free again
  pub set_back : (value : Option Bool) → set (set values variable value) variable None ≡ values
  set_back value =
      let e : get_or values variable (Some false) ≡ None = free_none (get_or values variable (Some false)) free in
      set-set values variable value None ∙ rw e at (set-get_or values variable (Some false))

-- a value is the one or the other of two
pub one_or_other : (one value : Bool) → (value ≡ one) ⊎ (value ≡ not one)
one_or_other true true = inl refl
one_or_other true false = inr refl
one_or_other false true = inr refl
one_or_other false false = inl refl
