-- The loop over a clause's literals, and each way out of the test of one.
use Rattle.std.proofs.Common.{◌≡◌, sym, ◌∙◌, ℕ, ◌+◌, ◌*◌, ◌<◌, ◌≤◌, false, cond, List, [], map, length, take, get_or, leb, ltb, ltb-true}
use mathlib.Core.Bool.{or-true, or-false}
use Rattle.std.proofs.lemmas.List.{take_all, get_or-map, length-map}
use Rattle.std.proofs.lemmas.List.Folds.{list_any_more, list_any_at}
use Rattle.table.specs.Words.{word_in}
use Rattle.table.specs.Limits.{within}
use Rattle.table.proofs.Steps.{both}
use Rattle.meaning.specs.declared.state.State.{State}
use Rattle.meaning.specs.declared.state.State.TheVariants.{Met, Open, Fails}
use Rattle.meaning.specs.Meaning.{any_of}
use Rattle.meaning.specs.HalfMade.{Values}
use Rattle.meaning.specs.States.{may_be_true, must_be_true, literal_state, clause_state}
use Rattle.meaning.specs.WholeRows.{LiteralsNamed}
use Rattle.meaning.proofs.Tested.{every_at}
use Rattle.meaning.proofs.States.{state_met, met_must, open_may, fails_neither}

-- the literal at hand, by its bytes
pub literal_at_hand :
    (parts : List (List ℕ)) (i literal : ℕ) →
    i < length parts →
    (literal ≡ word_in (get_or parts i [])) × (literal < 65536) →
    (i < length (map word_in parts)) × (literal ≡ get_or (map word_in parts) i 0)
literal_at_hand parts i literal h e = (rw (length-map parts word_in) h, e.0 ∙ sym (get_or-map word_in parts i [] 0 h))

-- each literal names a variable
pub literal_named : (variables : ℕ) (literals : List ℕ) (i : ℕ) → LiteralsNamed variables literals → i < length literals → get_or literals i 0 < 2 * variables
unfolding within
literal_named variables literals i named h =
    let literal = get_or literals i 0 in
    ltb-true literal (2 * variables) (both (leb 0 literal) (ltb literal (2 * variables)) (every_at (within 0 (2 * variables)) literals 0 i named.named h)).1

-- how far the loop has come: of the first i literals none must be true, and the state tells whether one may be
pub record Scanned (values : Values) (literals : List ℕ) (i : ℕ) (state : State) : Type 0 where
  pub is : state ≡ cond (any_of (may_be_true values) (take i literals)) Open Fails
  pub must : any_of (must_be_true values) (take i literals) ≡ false

module _ (values : Values) (literals : List ℕ) (i : ℕ) (h : i < length literals) where
  -- the literal at hand must be true
  pub scanned_met : Met ≡ literal_state values (get_or literals i 0) → Met ≡ clause_state values literals
  unfolding literal_state clause_state
  scanned_met e = state_met _ _ (list_any_at (must_be_true values) literals i 0 h (met_must _ _ e))

  -- it need not, and may
  pub scanned_open :
      (state : State) → Scanned values literals i state → Open ≡ literal_state values (get_or literals i 0) → Scanned values literals (i + 1) Open
  unfolding literal_state
  scanned_open state s e =
      let told = open_may _ _ e in
      record {
        is = rw (list_any_more (may_be_true values) literals i 0 h, told.0, or-true (any_of (may_be_true values) (take i literals)));
        must = rw (list_any_more (must_be_true values) literals i 0 h, told.1, s.must);
      }

  -- it cannot be
  pub scanned_fails :
      (state : State) → Scanned values literals i state → Fails ≡ literal_state values (get_or literals i 0) → Scanned values literals (i + 1) state
  unfolding literal_state
  scanned_fails state s e =
      let told = fails_neither _ _ e in
      record {
        is = rw (list_any_more (may_be_true values) literals i 0 h, told.0, or-false (any_of (may_be_true values) (take i literals))) s.is;
        must = rw (list_any_more (must_be_true values) literals i 0 h, told.1, s.must);
      }

-- no literal is left
pub scanned_end :
    (values : Values) (literals : List ℕ) (i : ℕ) (state : State) → Scanned values literals i state → length literals ≤ i → state ≡ clause_state values literals
unfolding clause_state
scanned_end values literals i state s h =
    let is : state ≡ cond (any_of (may_be_true values) literals) Open Fails = rw (take_all i literals h) at s.is in
    let must : any_of (must_be_true values) literals ≡ false = rw (take_all i literals h) at s.must in
    rw must is
