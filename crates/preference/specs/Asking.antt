-- The methods a second time, as programs that can do nothing but ask. No program is handed the question: it names a selection, is told the answer,
-- and goes on. So what it asked is a list, and document 01's "A count is the number of questions asked" is the length of that list.
use Rattle.std.specs.Prelude.{Bool, true, false, cond, List, [], ◌∷◌, ◌++◌, ℕ, zero, suc, ◌+◌, ltb, eqb, length}
use Rattle.preference.specs.Selection.{Selection, all, none, kept, dropped}
use Rattle.preference.specs.Question.{Question}
use Rattle.preference.specs.Cut.{Tree, leaf, node, size, middle}
use Rattle.preference.specs.Answer.{Answer}

-- A program is done and has found something, or it asks whether a selection can stand and goes on by the answer.
pub data Asking (A : Type 0) : Type 0 where
  done : A → Asking A
  ask : Selection → (Bool → Asking A) → Asking A

-- What the program finds where its questions are answered so.
unfoldable pub found_by : {A : Type 0} → Question → Asking A → A
found_by ok (done found) = found
found_by ok (ask X next) = found_by ok (next (ok X))

-- The questions that it asks then, in order.
unfoldable pub questions_of : {A : Type 0} → Question → Asking A → List Selection
questions_of ok (done found) = []
questions_of ok (ask X next) = X ∷ questions_of ok (next (ok X))

infixl 10 ◌>>=◌
-- One program and then another, which goes on from what the first one found: `do` with `found ← first`, and then the second.
unfoldable pub ◌>>=◌ : {A B : Type 0} → Asking A → (A → Asking B) → Asking B
done found >>= second = second found
ask X next >>= second = ask X (λ stands. next stands >>= second)

-- The program of one question: the answer to whether this selection can stand.
abbrev pub answer_to : Selection → Asking Bool
answer_to X = ask X done

-- One by one, conflict: "from cN to c1, ask what is left without this request, and remove it if that cannot stand."
-- The first n requests are still to be tried, and S is what is left of those after them.
unfoldable pub remove_one_by_one : ℕ → (S : Selection) → Asking Selection
remove_one_by_one zero S = done S
remove_one_by_one (suc n) S = do
  needed ← answer_to (all n ++ (false ∷ S))
  remove_one_by_one n (needed ∷ S)

-- One by one, relaxation: "from c1 to cN, ask with this request added, and keep it if that can stand."
-- P is what was kept of the first requests, and n requests after them are still to be tried.
unfoldable pub add_one_by_one : (P : Selection) → ℕ → Asking Selection
add_one_by_one P zero = done P
add_one_by_one P (suc n) = do
  keep ← answer_to (P ++ (true ∷ none n))
  add_one_by_one (P ++ (keep ∷ [])) n

-- The selection has a request.
abbrev pub not_empty : Selection → Bool
not_empty X = ltb 0 (kept X)

-- The selection leaves no request out.
abbrev pub kept_whole : Selection → Bool
kept_whole X = eqb (dropped X) 0

-- Halving, conflict: "When a part is entered and its last addition was not empty, the ground is asked first, and if it cannot stand the part gives
-- nothing". The part has n requests, and `work` is how it is worked.
unfoldable pub ask_the_ground : (addition ground : Selection) (n : ℕ) (work : Asking Selection) → Asking Selection
ask_the_ground addition ground n work = cond (not_empty addition) (do stands ← answer_to ground; cond stands work (done (none n))) work

-- "otherwise a part of one gives that request". A larger part is cut: "First C2 is worked with C1 added to the ground; its result is D2. Then C1 is
-- worked with D2 added instead. The result is both." The ground has `front` before the part and `back` after it, and nothing of the part.
unfoldable pub work_conflict : Tree → (addition front back : Selection) → Asking Selection
work_conflict leaf addition front back = ask_the_ground addition (front ++ (none 1 ++ back)) 1 (done (all 1))
work_conflict (node c1 c2) addition front back =
    ask_the_ground addition (front ++ (none (size c1 + size c2) ++ back)) (size c1 + size c2) do
      d2 ← work_conflict c2 (all (size c1)) (front ++ all (size c1)) back
      d1 ← work_conflict c1 d2 front (d2 ++ back)
      done (d1 ++ d2)

-- Halving, relaxation: a part that is known to fail "is worked without a question. If not, ask; keep it whole if it stands, else work it."
unfoldable pub ask_the_part : (known : Bool) (front : Selection) (n : ℕ) (back : Selection) (work : Asking Selection) → Asking Selection
ask_the_part known front n back work = cond known work (do stands ← answer_to (front ++ (all n ++ back)); cond stands (done (all n)) work)

-- "A part known not to stand whole: one request is dropped, no question. Otherwise cut as above. Ask the ground with C1; keep all of C1 if it stands,
-- else work C1. Then C2 on what was kept: if C1 was kept whole, C2 is known to fail".
unfoldable pub work_relaxation : Tree → (known : Bool) (front back : Selection) → Asking Selection
work_relaxation leaf known front back = ask_the_part known front 1 back (done (none 1))
work_relaxation (node c1 c2) known front back =
    ask_the_part known front (size c1 + size c2) back do
      k1 ← work_relaxation c1 false front (none (size c2) ++ back)
      k2 ← work_relaxation c2 (kept_whole k1) (front ++ k1) back
      done (k1 ++ k2)

-- What a whole call finds: a report's status and set (document 01, "The report").
pub record Finding : Type 0 where
  pub status : ℕ
  pub set : Selection

-- The call is done, with this status and set.
abbrev pub finish : ℕ → Selection → Asking Finding
finish status set = done (record { status = status; set = set })

-- "Both methods, for conflict and relaxation, start so: ask all requests; if they can stand, stop (1 question). If N = 0, stop (1).
-- Ask the host rows alone, also when there are none; if they cannot stand, stop (2)." `whole` is the set where all can stand.
unfoldable pub shared_start : (n : ℕ) (whole : Selection) (work : Asking Selection) → Asking Finding
shared_start n whole work = do
  allStand ← answer_to (all n)
  cond allStand (finish 0 whole) (cond (eqb n 0) (finish 2 (none n)) do
    hostStands ← answer_to (none n)
    cond hostStands (do set ← work; finish 1 set) (finish 2 (none n)))

-- The calls, one by one.
abbrev pub ask_conflict_one_by_one : ℕ → Asking Finding
ask_conflict_one_by_one n = shared_start n (none n) (remove_one_by_one n [])

abbrev pub ask_relaxation_one_by_one : ℕ → Asking Finding
ask_relaxation_one_by_one n = shared_start n (all n) (add_one_by_one [] n)

-- The calls, by halving over any way of cutting. "The first part's ground was asked at the start and is not asked again": nothing was added to it
-- since; and that the first part cannot stand whole is known from the start.
abbrev pub ask_conflict_over : Tree → ℕ → Asking Finding
ask_conflict_over t n = shared_start n (none n) (work_conflict t [] [] [])

abbrev pub ask_relaxation_over : Tree → ℕ → Asking Finding
ask_relaxation_over t n = shared_start n (all n) (work_relaxation t true [] [])

-- The calls, by halving as document 01 has it, by the middle.
abbrev pub ask_conflict_by_halving : ℕ → Asking Finding
ask_conflict_by_halving n = ask_conflict_over (middle n) n

abbrev pub ask_relaxation_by_halving : ℕ → Asking Finding
ask_relaxation_by_halving n = ask_relaxation_over (middle n) n

-- What a call answers where its questions are answered so: what it finds, and as its count the number of questions that it asks.
abbrev pub answer_of : Question → Asking Finding → Answer
answer_of ok call =
    record {
      status = (found_by ok call).status;
      set = (found_by ok call).set;
      asked = length (questions_of ok call);
    }
