-- Of each method there is a right answer, the one that the method gives, and only one.
use Rattle.std.proofs.Common.{ℕ, zero, suc, ◌≤◌, ◌≡◌, refl, sym, ◌∙◌, true, false, ◌↔◌, arith, length}
use Rattle.preference.specs.Selection.{Selection, all, none}
use Rattle.preference.specs.Question.{Question, Monotone}
use Rattle.preference.specs.Preference.{PreferredConflict, PreferredRelaxation}
use Rattle.preference.specs.Part.{Part}
use Rattle.preference.specs.Cut.{half}
use Rattle.preference.specs.Answer.{Answer, answered}
use Rattle.preference.specs.Asking.{questions_of}
use Rattle.preference.proofs.Counts.{the_halving_conflict_count_is_the_number_of_questions, the_one_by_one_conflict_count_is_the_number_of_questions}
use Rattle.preference.proofs.Counts.{the_halving_relaxation_count_is_the_number_of_questions, the_one_by_one_relaxation_count_is_the_number_of_questions}
use Rattle.preference.proofs.Trees.{half_cuts}
use Rattle.preference.proofs.Orders.{preferred_conflict_is_unique, preferred_relaxation_is_unique}
use Rattle.preference.proofs.Start.{by_start, status_0, status_1, status_2}
use Rattle.preference.proofs.Conflicts.{one_by_one_conflict_is_preferred, halving_conflict_is_preferred}
use Rattle.preference.proofs.Relaxations.{one_by_one_relaxation_is_preferred, halving_relaxation_is_preferred}
use Rattle.explain.specs.declared.answers.Method.{Method}
use Rattle.explain.specs.declared.answers.Method.TheVariants.{ConflictByHalving, ConflictOneByOne, RelaxationByHalving, RelaxationOneByOne}
use Rattle.explain.specs.Methods.{answer_by, asked_by, whole_by, worked_by}
use Rattle.explain.proofs.Finishing.{answer_is}
use Rattle.promises.specs.Calls.{ConflictSet, RelaxationSet, SetBy, RightAnswer}

module _ (ok : Question) (n : ℕ) (whole : Selection) (worked : Part) where
  -- there are three statuses
  status_is_small : (answered ok n whole worked).status ≤ 2
  status_is_small = by_start ok n whole worked (λ a. a.status ≤ 2) (λ h. omega arith) (λ h z g. omega arith) (λ h p g. omega arith) (λ h p g. omega arith)

  -- where all can stand the set is the method's whole
  whole_where_all_stand : (answered ok n whole worked).status ≡ 0 → (answered ok n whole worked).set ≡ whole
  whole_where_all_stand =
      by_start ok n whole worked (λ a. a.status ≡ 0 → a.set ≡ whole) (λ h e. refl) (λ h z g e. absurd (omega arith)) (λ h p g e. absurd (omega arith))
      (λ h p g e. absurd (omega arith))

  -- where the host rows cannot stand it is empty
  none_where_the_host_fails : (answered ok n whole worked).status ≡ 2 → (answered ok n whole worked).set ≡ none n
  none_where_the_host_fails =
      by_start ok n whole worked (λ a. a.status ≡ 2 → a.set ≡ none n) (λ h e. absurd (omega arith)) (λ h z g e. refl) (λ h p g e. refl)
      (λ h p g e. absurd (omega arith))

  -- a preferred conflict where not all can stand is the set of a conflict
  conflict_set :
      (ok (all n) ≡ false → PreferredConflict ok n (answered ok n whole worked).set) → whole ≡ none n → ConflictSet ok n (answered ok n whole worked)
  conflict_set preferred empty =
      record {
        preferred = λ e. preferred ((status_1 ok n whole worked).0 e).0;
        all_stand = λ e. whole_where_all_stand e ∙ empty;
        host_fails = none_where_the_host_fails;
      }

  -- a preferred relaxation where the host can stand is the set of a relaxation
  relaxation_set :
      (ok (none n) ≡ true → PreferredRelaxation ok n (answered ok n whole worked).set) → whole ≡ all n → RelaxationSet ok n (answered ok n whole worked)
  relaxation_set preferred full =
      record {
        preferred = λ e. preferred ((status_1 ok n whole worked).0 e).1;
        all_stand = λ e. whole_where_all_stand e ∙ full;
        host_fails = none_where_the_host_fails;
      }

-- the set that a method gives is right
set_by : (method : Method) (ok : Question) (n : ℕ) → Monotone ok n → SetBy method ok n (answered ok n (whole_by method n) (worked_by method ok n))
unfolding SetBy whole_by worked_by
set_by ConflictByHalving ok n monotone = conflict_set ok n (none n) _ (halving_conflict_is_preferred ok n monotone half half_cuts) refl
set_by ConflictOneByOne ok n monotone = conflict_set ok n (none n) _ (one_by_one_conflict_is_preferred ok n monotone) refl
set_by RelaxationByHalving ok n monotone = relaxation_set ok n (all n) _ (halving_relaxation_is_preferred ok n monotone half half_cuts) refl
set_by RelaxationOneByOne ok n monotone = relaxation_set ok n (all n) _ (one_by_one_relaxation_is_preferred ok n monotone) refl

-- the count of a method is the number of its questions
count_by : (method : Method) (ok : Question) (n : ℕ) → (answer_by method ok n).asked ≡ length (questions_of ok (asked_by method n))
unfolding answer_by asked_by
count_by ConflictByHalving ok n = the_halving_conflict_count_is_the_number_of_questions ok n
count_by ConflictOneByOne ok n = the_one_by_one_conflict_count_is_the_number_of_questions ok n
count_by RelaxationByHalving ok n = the_halving_relaxation_count_is_the_number_of_questions ok n
count_by RelaxationOneByOne ok n = the_one_by_one_relaxation_count_is_the_number_of_questions ok n

-- a method gives a right answer
pub right_answer : (method : Method) (ok : Question) (n : ℕ) → Monotone ok n → RightAnswer method ok n (answer_by method ok n)
right_answer method ok n monotone =
    record {
      status = rw (answer_is method ok n) (status_is_small ok n (whole_by method n) (worked_by method ok n));
      all_stand = rw (answer_is method ok n) (status_0 ok n (whole_by method n) (worked_by method ok n));
      host_fails = rw (answer_is method ok n) (status_2 ok n (whole_by method n) (worked_by method ok n) monotone);
      set = rw (answer_is method ok n) (set_by method ok n monotone);
      count = count_by method ok n;
    }

-- an answer by its three fields
abbrev told : ℕ → Selection → ℕ → Answer
told status set asked = record { status = status; set = set; asked = asked }

-- answers that say the same are one
same_fields : {a b : Answer} → a.status ≡ b.status → a.set ≡ b.set → a.asked ≡ b.asked → a ≡ b
same_fields {a} {b} s x c =
    let fields : told a.status a.set a.asked ≡ told b.status b.set b.asked = rw (s, x, c) in fields

-- two statuses that are 0 where the same holds, and 2 where the same holds, are one
same_status :
    {P Q : Type 0} (a b : ℕ) → a ≤ 2 → b ≤ 2 → (a ≡ 0 ↔ P) → (b ≡ 0 ↔ P) → (a ≡ 2 ↔ Q) → (b ≡ 2 ↔ Q) → a ≡ b
same_status zero b h g p q r s = sym (q.1 (p.0 refl))
same_status (suc zero) zero h g p q r s = p.1 (q.0 refl)
same_status (suc zero) (suc zero) h g p q r s = refl
same_status (suc zero) (suc (suc b)) h g p q r s = let e : suc (suc b) ≡ 2 = omega arith in r.1 (s.0 e) ∙ sym e
same_status (suc (suc a)) b h g p q r s = let e : suc (suc a) ≡ 2 = omega arith in e ∙ sym (s.1 (r.0 e))

-- the three statuses, one by one
by_status : (P : Type 0) (status : ℕ) → status ≤ 2 → (status ≡ 0 → P) → (status ≡ 1 → P) → (status ≡ 2 → P) → P
by_status P zero h a b c = a refl
by_status P (suc zero) h a b c = b refl
by_status P (suc (suc s)) h a b c = c (omega arith)

module _ (ok : Question) (n : ℕ) (a b : Answer) (small : a.status ≤ 2) (e : a.status ≡ b.status) where
  -- of one status there is one set of a conflict
  only_one_conflict_set : ConflictSet ok n a → ConflictSet ok n b → a.set ≡ b.set
  only_one_conflict_set p q =
      by_status (a.set ≡ b.set) a.status small (λ s. p.all_stand s ∙ sym (q.all_stand (sym e ∙ s)))
      (λ s. preferred_conflict_is_unique ok n (p.preferred s) (q.preferred (sym e ∙ s)))
      (λ s. p.host_fails s ∙ sym (q.host_fails (sym e ∙ s)))

  -- and one of a relaxation
  only_one_relaxation_set : RelaxationSet ok n a → RelaxationSet ok n b → a.set ≡ b.set
  only_one_relaxation_set p q =
      by_status (a.set ≡ b.set) a.status small (λ s. p.all_stand s ∙ sym (q.all_stand (sym e ∙ s)))
      (λ s. preferred_relaxation_is_unique ok n (p.preferred s) (q.preferred (sym e ∙ s)))
      (λ s. p.host_fails s ∙ sym (q.host_fails (sym e ∙ s)))

  -- so there is one by each method
  only_one_set : (method : Method) → SetBy method ok n a → SetBy method ok n b → a.set ≡ b.set
  unfolding SetBy
  only_one_set ConflictByHalving p q = only_one_conflict_set p q
  only_one_set ConflictOneByOne p q = only_one_conflict_set p q
  only_one_set RelaxationByHalving p q = only_one_relaxation_set p q
  only_one_set RelaxationOneByOne p q = only_one_relaxation_set p q

-- two right answers are one
pub only_one_right_answer : (method : Method) (ok : Question) (n : ℕ) (a b : Answer) → RightAnswer method ok n a → RightAnswer method ok n b → a ≡ b
only_one_right_answer method ok n a b p q =
    let e = same_status a.status b.status p.status q.status p.all_stand q.all_stand p.host_fails q.host_fails in
    same_fields e (only_one_set ok n a b p.status e method p.set q.set) (p.count ∙ sym q.count)
