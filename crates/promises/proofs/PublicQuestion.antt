-- What the methods ask is what the public question answers: each question about places of an order is one about a lent selection.
use Rattle.std.proofs.Common.{ℕ, zero, suc, ◌≤◌, ◌<◌, ◌≡◌, refl, sym, ap, ◌∙◌, Bool, false, List, [], ◌∷◌, arith, length, get_or}
use Rattle.table.specs.declared.record.Frame.{Frame}
use Rattle.table.specs.Kept.{Kept, order_of}
use Rattle.meaning.proofs.Choices.{same_on_table}
use Rattle.preference.specs.Selection.{Selection}
use Rattle.preference.specs.Question.{Agree}
use Rattle.explain.specs.Asking.{chosen_by, question_of}
use Rattle.promises.specs.Selecting.{names_above, selection_of, can_stand}
use Rattle.promises.specs.Reports.{table_question}
use Rattle.promises.specs.Demands.{StandAlike}
use Rattle.promises.proofs.Bits.{LentAs, bits_of_some_number}

-- the flags of n places, each by its number
unfoldable pub flags_of : ℕ → (ℕ → Bool) → List Bool
flags_of zero choose = []
flags_of (suc n) choose = choose 0 ∷ flags_of n (λ k. choose (suc k))

-- there are n of them
length_flags : (n : ℕ) (choose : ℕ → Bool) → length (flags_of n choose) ≡ n
unfolding flags_of
length_flags zero choose = refl
length_flags (suc n) choose = ap suc (length_flags n (λ k. choose (suc k)))

-- the flag at a place is the choice of its number
flag_at : (n : ℕ) (choose : ℕ → Bool) (k : ℕ) → k < n → get_or (flags_of n choose) k false ≡ choose k
unfolding flags_of
flag_at zero choose k h = absurd (omega arith)
flag_at (suc n) choose zero h = refl
flag_at (suc n) choose (suc k) h = flag_at n (λ k. choose (suc k)) k (omega arith)

-- a selection that is lent: it names, of the requests 1 to n, those that are chosen
pub record LentFor (n : ℕ) (chosen : ℕ → Bool) : Type 0 where
  pub selection : ℕ
  pub names : (role : ℕ) → 0 < role → role ≤ n → selection_of n selection role ≡ chosen role
  pub none_above : names_above n selection ≡ false

-- every choice of the requests 1 to n can be lent
pub every_choice_can_be_lent : (n : ℕ) (chosen : ℕ → Bool) → LentFor n chosen
every_choice_can_be_lent n chosen = record { selection = lent.selection; names = names; none_above = lent.none_above }
  where
    lent : LentAs n (flags_of n (λ k. chosen (suc k)))
    lent = bits_of_some_number n (flags_of n (λ k. chosen (suc k))) (length_flags n (λ k. chosen (suc k)))

    names : (role : ℕ) → 0 < role → role ≤ n → selection_of n lent.selection role ≡ chosen role
    names zero h g = absurd (omega arith)
    names (suc role) h g = rw lent.bits_are (flag_at n (λ k. chosen (suc k)) role (omega arith))

-- the question about an order's places is the public question about the requests that they name
pub asked_in_public :
    (t : List ℕ) (f : Frame) (order : List ℕ) (X : Selection) (selection : ℕ) →
    Kept t f →
    ((role : ℕ) → 0 < role → role ≤ f.requests → selection_of f.requests selection role ≡ chosen_by order X role) →
    question_of t f order X ≡ can_stand t f selection
unfolding question_of can_stand
asked_in_public t f order X selection kept names =
    sym (same_on_table (selection_of f.requests selection) (chosen_by order X) t f kept names)

-- two tables that stand alike have questions that agree
pub questions_agree :
    (t : List ℕ) (f : Frame) (u : List ℕ) (g : Frame) →
    Kept t f →
    Kept u g →
    StandAlike t f u g →
    Agree f.requests (table_question t f) (table_question u g)
questions_agree t f u g kept kept' alike X long =
    asked_in_public t f (order_of t f) X lent.selection kept lent.names
    ∙ alike.standing lent.selection lent.none_above
    ∙ sym (asked_in_public u g (order_of u g) X lent.selection kept' names)
  where
    lent : LentFor f.requests (chosen_by (order_of t f) X)
    lent = every_choice_can_be_lent f.requests (chosen_by (order_of t f) X)

    names : (role : ℕ) → 0 < role → role ≤ g.requests → selection_of g.requests lent.selection role ≡ chosen_by (order_of u g) X role
    names role h i = rw (← alike.order, ← alike.requests) (lent.names role h (omega (arith, alike.requests)))
