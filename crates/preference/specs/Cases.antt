-- Rows A to I of document 01's sample sheet and Example 2 of document 004, each with its question as a function of a selection in the row's order.
-- (Rows J and K have the question of row D.)
use Rattle.std.specs.Prelude.{◌≡◌, true, false, List, [], ◌∷◌, ◌++◌, map, ℕ, ◌+◌, leb}
use Rattle.preference.specs.Selection.{Selection, all, none}
use Rattle.preference.specs.Question.{Question}
use Rattle.preference.specs.Preference.{LexBefore, AntilexBefore}
use Rattle.preference.specs.Answer.{Answer, conflict_one_by_one, relaxation_one_by_one, conflict_by_halving, relaxation_by_halving}

-- A question about a number of requests, and what halving makes of it: status, set and count.
pub record Case : Type 0 where
  pub question : Question
  pub requests : ℕ
  pub conflict : Answer
  pub relaxation : Answer

-- How much the chosen requests want in all.
unfoldable pub wanted : List ℕ → Selection → ℕ
wanted [] X = 0
wanted (want ∷ wants) [] = 0
wanted (want ∷ wants) (true ∷ X) = want + wanted wants X
wanted (want ∷ wants) (false ∷ X) = wanted wants X

-- The requests want so much each, and together no more than the budget.
unfoldable pub within_budget : List ℕ → ℕ → Question
within_budget wants budget X = leb (wanted wants X) budget

-- The host cannot stand.
abbrev pub nothing_stands : Question
nothing_stands X = false

-- Status, set and count, as the sheet has them.
abbrev pub answer : ℕ → Selection → ℕ → Answer
answer status set asked = record { status = status; set = set; asked = asked }

-- No requests, no rows.
abbrev pub case_a : Case
case_a = record { question = within_budget [] 0; requests = 0; conflict = answer 0 [] 1; relaxation = answer 0 [] 1 }

-- No requests, and a host that cannot stand.
abbrev pub case_b : Case
case_b = record { question = nothing_stands; requests = 0; conflict = answer 2 [] 1; relaxation = answer 2 [] 1 }

-- One request, and a host that cannot stand.
abbrev pub case_c : Case
case_c = record { question = nothing_stands; requests = 1; conflict = answer 2 (false ∷ []) 2; relaxation = answer 2 (false ∷ []) 2 }

-- One request, which cannot stand.
abbrev pub case_d : Case
case_d = record { question = within_budget (1 ∷ []) 0; requests = 1; conflict = answer 1 (true ∷ []) 2; relaxation = answer 1 (false ∷ []) 2 }

-- E, and F, which has the same requests in the other order: x0 and !x0, of which one can stand.
abbrev pub case_e : Case
case_e =
    record {
      question = within_budget (1 ∷ 1 ∷ []) 1;
      requests = 2;
      conflict = answer 1 (true ∷ true ∷ []) 4;
      relaxation = answer 1 (true ∷ false ∷ []) 3;
    }

-- The host wants !x0 and both requests want x0.
abbrev pub case_g : Case
case_g =
    record {
      question = within_budget (1 ∷ 1 ∷ []) 0;
      requests = 2;
      conflict = answer 1 (true ∷ false ∷ []) 3;
      relaxation = answer 1 (false ∷ false ∷ []) 4;
    }

-- Four plug-ins want 1200, 900, 2500 and 700 rows of a bib map of 4000, and the order is 2 4 1 3.
abbrev pub case_h : Case
case_h =
    record {
      question = within_budget (900 ∷ 700 ∷ 1200 ∷ 2500 ∷ []) 4000;
      requests = 4;
      conflict = answer 1 (true ∷ true ∷ false ∷ true ∷ []) 8;
      relaxation = answer 1 (true ∷ true ∷ true ∷ false ∷ []) 4;
    }

-- H with bound 4100, which is what requests 2, 4 and 3 want: "I shows 4100 allowed".
abbrev pub case_i : Case
case_i =
    record {
      question = within_budget (900 ∷ 700 ∷ 1200 ∷ 2500 ∷ []) 4100;
      requests = 4;
      conflict = answer 1 (true ∷ false ∷ true ∷ true ∷ []) 7;
      relaxation = answer 1 (true ∷ true ∷ true ∷ false ∷ []) 4;
    }

-- Example 2 at n = 16: requests 9, 10 and 12 want n each and every other one wants 1, and the sum must stay below 3n.
abbrev pub example2 : Case
example2 =
    record {
      question = within_budget (1 ∷ 1 ∷ 1 ∷ 1 ∷ 1 ∷ 1 ∷ 1 ∷ 1 ∷ 16 ∷ 16 ∷ 1 ∷ 16 ∷ 1 ∷ 1 ∷ 1 ∷ 1 ∷ []) 47;
      requests = 16;
      conflict = answer 1 (none 8 ++ (true ∷ true ∷ false ∷ true ∷ none 4)) 11;
      relaxation = answer 1 (all 11 ++ (false ∷ all 4)) 7;
    }

-- Three requests want 1, 1 and 2 of a budget of 2: a part of three is cut into the first one and the rest, and not into the first two and the last.
abbrev pub case_three : Case
case_three =
    record {
      question = within_budget (1 ∷ 1 ∷ 2 ∷ []) 2;
      requests = 3;
      conflict = answer 1 (true ∷ false ∷ true ∷ []) 6;
      relaxation = answer 1 (true ∷ true ∷ false ∷ []) 4;
    }

-- The cases, from A to I, the example, and the one of three requests.
abbrev pub cases : List Case
cases = case_a ∷ case_b ∷ case_c ∷ case_d ∷ case_e ∷ case_e ∷ case_g ∷ case_h ∷ case_i ∷ example2 ∷ case_three ∷ []

-- Halving gives each case's conflict and relaxation, count included, and one by one gives the same sets.
pub record CasesHold : Type 0 where
  pub conflicts : map (λ case. conflict_by_halving case.question case.requests) cases ≡ map (λ case. case.conflict) cases
  pub relaxations : map (λ case. relaxation_by_halving case.question case.requests) cases ≡ map (λ case. case.relaxation) cases
  pub conflict_sets : map (λ case. (conflict_one_by_one case.question case.requests).set) cases ≡ map (λ case. case.conflict.set) cases
  pub relaxation_sets : map (λ case. (relaxation_one_by_one case.question case.requests).set) cases ≡ map (λ case. case.relaxation.set) cases

-- "In H {2 1 3} and {4 1 3} are minimal too": {2 4 3} comes before both, as it is without request 1. In E, {1} comes before {2}.
pub record OrdersHold : Type 0 where
  pub H_before_213 : AntilexBefore (true ∷ true ∷ false ∷ true ∷ []) (true ∷ false ∷ true ∷ true ∷ [])
  pub H_before_413 : AntilexBefore (true ∷ true ∷ false ∷ true ∷ []) (false ∷ true ∷ true ∷ true ∷ [])
  pub E_before_2 : LexBefore (true ∷ false ∷ []) (false ∷ true ∷ [])
