-- "the count equals the method's questions" (document 01): each answer is what a program gives that can do nothing but ask (specs/Asking.antt), and its
-- count is the number of questions that the program asks. For every question and every number of requests: no question need be monotone for this.
use Rattle.std.proofs.Common.{◌≡◌, refl, sym, ap, [], ◌∷◌, map, ℕ, length}
use Rattle.preference.specs.Selection.{all, none, kept, dropped}
use Rattle.preference.specs.Named.{named}
use Rattle.preference.specs.Question.{Question}
use Rattle.preference.specs.Cut.{Tree, size, tree_of, middle}
use Rattle.preference.specs.Answer.{conflict_one_by_one, relaxation_one_by_one, conflict_over, relaxation_over, conflict_by_halving, relaxation_by_halving}
use Rattle.preference.specs.Cases.{case_h, wanted, within_budget}
use Rattle.preference.specs.Asking.{found_by, questions_of, ◌>>=◌, answer_of, ask_conflict_one_by_one, ask_relaxation_one_by_one, ask_conflict_over}
use Rattle.preference.specs.Asking.{ask_relaxation_over, ask_conflict_by_halving, ask_relaxation_by_halving, shared_start}
use Rattle.preference.specs.Asking.{work_conflict, ask_the_ground, work_relaxation, ask_the_part}
use Rattle.preference.proofs.CarriedOut.{removing_carries_out_one_by_one, adding_carries_out_one_by_one}
use Rattle.preference.proofs.CarriedOut.{working_carries_out_a_conflict, working_carries_out_a_relaxation, the_start_is_asked}

module _ (ok : Question) (n : ℕ) where
  -- status, set and count, one by one
  pub the_one_by_one_conflict_is_asked : answer_of ok (ask_conflict_one_by_one n) ≡ conflict_one_by_one ok n
  the_one_by_one_conflict_is_asked = the_start_is_asked ok n (none n) _ _ (removing_carries_out_one_by_one ok n [])

  pub the_one_by_one_relaxation_is_asked : answer_of ok (ask_relaxation_one_by_one n) ≡ relaxation_one_by_one ok n
  the_one_by_one_relaxation_is_asked = the_start_is_asked ok n (all n) _ _ (adding_carries_out_one_by_one ok [] n)

  -- by halving, over every way of cutting,
  pub the_conflict_over_any_tree_is_asked : (t : Tree) → answer_of ok (ask_conflict_over t n) ≡ conflict_over t ok n
  the_conflict_over_any_tree_is_asked t = the_start_is_asked ok n (none n) _ _ (working_carries_out_a_conflict ok t)

  pub the_relaxation_over_any_tree_is_asked : (t : Tree) → answer_of ok (ask_relaxation_over t n) ≡ relaxation_over t ok n
  the_relaxation_over_any_tree_is_asked t = the_start_is_asked ok n (all n) _ _ (working_carries_out_a_relaxation ok t)

  -- and by the middle
  pub the_halving_conflict_is_asked : answer_of ok (ask_conflict_by_halving n) ≡ conflict_by_halving ok n
  the_halving_conflict_is_asked = the_conflict_over_any_tree_is_asked (middle n)

  pub the_halving_relaxation_is_asked : answer_of ok (ask_relaxation_by_halving n) ≡ relaxation_by_halving ok n
  the_halving_relaxation_is_asked = the_relaxation_over_any_tree_is_asked (middle n)

  -- so each count is the number of questions
  pub the_one_by_one_conflict_count_is_the_number_of_questions : (conflict_one_by_one ok n).asked ≡ length (questions_of ok (ask_conflict_one_by_one n))
  the_one_by_one_conflict_count_is_the_number_of_questions = sym (ap (λ a. a.asked) the_one_by_one_conflict_is_asked)

  pub the_one_by_one_relaxation_count_is_the_number_of_questions : (relaxation_one_by_one ok n).asked ≡ length (questions_of ok (ask_relaxation_one_by_one n))
  the_one_by_one_relaxation_count_is_the_number_of_questions = sym (ap (λ a. a.asked) the_one_by_one_relaxation_is_asked)

  pub the_halving_conflict_count_is_the_number_of_questions : (conflict_by_halving ok n).asked ≡ length (questions_of ok (ask_conflict_by_halving n))
  the_halving_conflict_count_is_the_number_of_questions = sym (ap (λ a. a.asked) the_halving_conflict_is_asked)

  pub the_halving_relaxation_count_is_the_number_of_questions : (relaxation_by_halving ok n).asked ≡ length (questions_of ok (ask_relaxation_by_halving n))
  the_halving_relaxation_count_is_the_number_of_questions = sym (ap (λ a. a.asked) the_halving_relaxation_is_asked)

-- Row H, whose order is 2 4 1 3: the 8 questions of the conflict and the 4 of the relaxation, each by the numbers of its requests.
pub the_conflict_of_row_H_asks_8_questions : map (named (2 ∷ 4 ∷ 1 ∷ 3 ∷ [])) (questions_of case_h.question (ask_conflict_by_halving 4))
    ≡ (2 ∷ 4 ∷ 1 ∷ 3 ∷ []) ∷ [] ∷ (2 ∷ 4 ∷ []) ∷ (2 ∷ 4 ∷ 1 ∷ []) ∷ (2 ∷ 4 ∷ 3 ∷ []) ∷ (3 ∷ []) ∷ (2 ∷ 3 ∷ []) ∷ (4 ∷ 3 ∷ []) ∷ []
unfolding all none kept size tree_of found_by questions_of ◌>>=◌ shared_start work_conflict ask_the_ground wanted within_budget named
the_conflict_of_row_H_asks_8_questions = refl

pub the_relaxation_of_row_H_asks_4_questions : map (named (2 ∷ 4 ∷ 1 ∷ 3 ∷ [])) (questions_of case_h.question (ask_relaxation_by_halving 4))
    ≡ (2 ∷ 4 ∷ 1 ∷ 3 ∷ []) ∷ [] ∷ (2 ∷ 4 ∷ []) ∷ (2 ∷ 4 ∷ 1 ∷ []) ∷ []
unfolding all none dropped size tree_of found_by questions_of ◌>>=◌ shared_start work_relaxation ask_the_part wanted within_budget named
the_relaxation_of_row_H_asks_4_questions = refl
