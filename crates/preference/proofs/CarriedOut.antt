-- A method's count is the number of questions that it asks: each part of a method, and the shared start, carried out by a program that can do
-- nothing but ask (specs/Asking.antt). No question need be monotone for this.
use Rattle.std.proofs.Common.{◌≡◌, refl, sym, ap, ◌∙◌, Bool, true, false, not, cond, [], ◌∷◌, ◌++◌, append_assoc}
use Rattle.std.proofs.Common.{append-nil, ℕ, zero, suc, ◌+◌, ◌≤◌, arith, add-zero, length, ltb, eqb, lt-ltb, ne_eqb}
use Rattle.preference.specs.Selection.{Selection, all, none, kept, dropped}
use Rattle.preference.specs.Question.{Question}
use Rattle.preference.specs.Part.{Part, together, entered}
use Rattle.preference.specs.OneByOne.{one_conflict, one_relax}
use Rattle.preference.specs.Cut.{Tree, leaf, node, size}
use Rattle.preference.specs.Halving.{halve_conflict, halve_relax, enter_conflict, enter_relax}
use Rattle.preference.specs.Answer.{answered}
use Rattle.preference.specs.Asking.{Asking, done, ask, found_by, questions_of, ◌>>=◌, remove_one_by_one, add_one_by_one, not_empty, kept_whole}
use Rattle.preference.specs.Asking.{ask_the_ground, work_conflict, ask_the_part, work_relaxation, shared_start, answer_of}
use Rattle.preference.proofs.Selections.{all-add, none-add, kept_and_dropped, dropped-append, dropped-all, length-all}

-- every part has a request
part_is_not_empty : (t : Tree) → 1 ≤ size t
unfolding size
part_is_not_empty leaf = omega arith
part_is_not_empty (node a b) = omega (arith, part_is_not_empty a)

kept_all : (n : ℕ) → kept (all n) ≡ n
kept_all n = omega (arith, kept_and_dropped (all n), dropped-all n, length-all n)

kept_of_none : (n : ℕ) → kept (none n) ≡ 0
unfolding none kept
kept_of_none zero = refl
kept_of_none (suc n) = kept_of_none n

-- turned round, as a conflict works the rest first
kept_append : (P Q : Selection) → kept (P ++ Q) ≡ kept Q + kept P
unfolding kept
kept_append [] Q = omega arith
kept_append (true ∷ P) Q = omega (arith, kept_append P Q)
kept_append (false ∷ P) Q = kept_append P Q

two_more : (n : ℕ) → 2 + n ≡ suc (suc n)
two_more n = omega arith

-- something was found, or nothing
some_or_none : (n : ℕ) → ltb 0 n ≡ not (eqb n 0)
some_or_none zero = refl
some_or_none (suc n) = let z : (suc n ≡ 0 → ⊥) = λ e. omega arith in rw (lt-ltb 0 (suc n) (omega arith), ne_eqb (suc n) 0 z)

module _ (ok : Question) where
  -- two programs, one after the other: what they find, and how many questions they ask
  found_in_turn : {A B : Type 0} (first : Asking A) (second : A → Asking B) → found_by ok (first >>= second) ≡ found_by ok (second (found_by ok first))
  unfolding found_by ◌>>=◌
  found_in_turn (done a) second = refl
  found_in_turn (ask X next) second = found_in_turn (next (ok X)) second

  asked_in_turn : {A B : Type 0} (first : Asking A) (second : A → Asking B)
      → length (questions_of ok (first >>= second)) ≡ length (questions_of ok first) + length (questions_of ok (second (found_by ok first)))
  unfolding found_by questions_of ◌>>=◌
  asked_in_turn (done a) second = omega arith
  asked_in_turn (ask X next) second = omega (arith, asked_in_turn (next (ok X)) second)

  -- a program does what the definitions say of a part: it finds the set, and asks as many questions as were counted
  pub record CarriesOut (work : Asking Selection) (p : Part) : Type 0 where
    pub set : found_by ok work ≡ p.set
    pub asked : length (questions_of ok work) ≡ p.asked

  pub removing_carries_out_one_by_one : (n : ℕ) (S : Selection) → CarriesOut (remove_one_by_one n S) (one_conflict ok n S)
  unfolding found_by questions_of ◌>>=◌ remove_one_by_one one_conflict
  removing_carries_out_one_by_one zero S = record { set = refl; asked = refl }
  removing_carries_out_one_by_one (suc n) S =
      let rest = removing_carries_out_one_by_one n (ok (all n ++ (false ∷ S)) ∷ S) in
      record { set = rest.set; asked = omega (arith, rest.asked) }

  pub adding_carries_out_one_by_one : (P : Selection) (n : ℕ) → CarriesOut (add_one_by_one P n) (one_relax ok P n)
  unfolding found_by questions_of ◌>>=◌ add_one_by_one one_relax
  adding_carries_out_one_by_one P zero = record { set = refl; asked = refl }
  adding_carries_out_one_by_one P (suc n) =
      let rest = adding_carries_out_one_by_one (P ++ (ok (P ++ (true ∷ none n)) ∷ [])) n in
      record { set = rest.set; asked = omega (arith, rest.asked) }

  -- what a program makes of a part: of a conflict, before what is decided of the requests after the part; of a relaxation, after what is decided
  -- of those in front of it
  abbrev conflict_part : Asking Selection → Selection → Part
  conflict_part work S = record { set = found_by ok work ++ S; found = kept (found_by ok work); asked = length (questions_of ok work) }

  abbrev relax_part : Selection → Asking Selection → Part
  relax_part P work = record { set = P ++ found_by ok work; found = dropped (found_by ok work); asked = length (questions_of ok work) }

  -- a part is entered
  the_ground_is_asked : (addition ground : Selection) (n : ℕ) (first : Bool) (S : Selection) (work : Asking Selection) (w : Part)
      → not_empty addition ≡ first → w ≡ conflict_part work S
      → entered first (ok ground) (none n ++ S) w ≡ conflict_part (ask_the_ground addition ground n work) S
  unfolding found_by questions_of ◌>>=◌ ask_the_ground entered
  the_ground_is_asked addition ground n false S work w e h = rw e h
  the_ground_is_asked addition ground n true S work w e h = rw e (go (ok ground))
    where
      go : (stands : Bool) → entered true stands (none n ++ S) w ≡ conflict_part (ask ground (λ b. cond stands work (done (none n)))) S
      go true = rw h
      go false = rw kept_of_none

  the_part_is_asked : (known : Bool) (P : Selection) (n : ℕ) (back : Selection) (work : Asking Selection) (w : Part) → w ≡ relax_part P work
      → entered (not known) (not (ok (P ++ (all n ++ back)))) (P ++ all n) w ≡ relax_part P (ask_the_part known P n back work)
  unfolding found_by questions_of ◌>>=◌ ask_the_part entered
  the_part_is_asked true P n back work w h = h
  the_part_is_asked false P n back work w h = go (ok (P ++ (all n ++ back)))
    where
      go : (stands : Bool) → entered true (not stands) (P ++ all n) w ≡ relax_part P (ask (P ++ (all n ++ back)) (λ b. cond stands (done (all n)) work))
      go true = rw dropped-all
      go false = rw h

  -- the two parts of a cut, one after the other
  conflict_in_turn : (S : Selection) (first : Asking Selection) (second : Selection → Asking Selection)
      → together (conflict_part first S) (conflict_part (second (found_by ok first)) (found_by ok first ++ S))
      ≡ conflict_part (first >>= λ d2. second d2 >>= λ d1. done (d1 ++ d2)) S
  unfolding found_by questions_of
  conflict_in_turn S first second = simp (found_in_turn, asked_in_turn, append_assoc, kept_append, add-zero)

  relax_in_turn : (P : Selection) (first : Asking Selection) (second : Selection → Asking Selection)
      → together (relax_part P first) (relax_part (P ++ found_by ok first) (second (found_by ok first)))
      ≡ relax_part P (first >>= λ k1. second k1 >>= λ k2. done (k1 ++ k2))
  unfolding found_by questions_of
  relax_in_turn P first second = simp (found_in_turn, asked_in_turn, append_assoc, dropped-append, add-zero)

  -- every part, by induction over the cuts; a conflict's front has all requests, and a relaxation's back has none
  working_a_conflict : (t : Tree) (before : ℕ) (first : Bool) (addition front S : Selection) → not_empty addition ≡ first → all before ≡ front
      → halve_conflict ok t before first S ≡ conflict_part (work_conflict t addition front S) S
  unfolding halve_conflict enter_conflict work_conflict
  working_a_conflict leaf before first addition front S e f =
      rw f (the_ground_is_asked addition (front ++ (none 1 ++ S)) 1 first S (done (all 1)) _ e (unfold found_by questions_of all kept in refl))
  working_a_conflict (node c1 c2) before first addition front S e f =
      let second : Asking Selection = work_conflict c2 (all (size c1)) (front ++ all (size c1)) S in
      let d2 : Selection = found_by ok second in
      let some : not_empty (all (size c1)) ≡ true = rw kept_all (lt-ltb 0 (size c1) (part_is_not_empty c1)) in
      rw f
      (the_ground_is_asked addition (front ++ (none (size c1 + size c2) ++ S)) (size c1 + size c2) first S _ _ e
      (ap (λ p. together p (halve_conflict ok c1 before (ltb 0 p.found) p.set))
      (working_a_conflict c2 (before + size c1) true (all (size c1)) (front ++ all (size c1)) S some
      (all-add before (size c1) ∙ ap (λ F. F ++ all (size c1)) f))
      ∙ ap (λ p. together (conflict_part second S) p) (working_a_conflict c1 before (not_empty d2) d2 front (d2 ++ S) refl f)
      ∙ conflict_in_turn S second (λ D. work_conflict c1 D front (D ++ S))))

  working_a_relaxation : (t : Tree) (P : Selection) (after : ℕ) (first known : Bool) (back : Selection) → first ≡ not known → none after ≡ back
      → halve_relax ok t P after first ≡ relax_part P (work_relaxation t known P back)
  unfolding halve_relax enter_relax work_relaxation
  working_a_relaxation leaf P after first known back e f =
      rw (e, f) (the_part_is_asked known P 1 back (done (none 1)) _ (unfold found_by questions_of none dropped in refl))
  working_a_relaxation (node c1 c2) P after first known back e f =
      let one : Asking Selection = work_relaxation c1 false P (none (size c2) ++ back) in
      let k1 : Selection = found_by ok one in
      rw (e, f)
      (the_part_is_asked known P (size c1 + size c2) back _ _
      (ap (λ p. together p (halve_relax ok c2 p.set after (ltb 0 p.found)))
      (working_a_relaxation c1 P (size c2 + after) true false (none (size c2) ++ back) refl (none-add (size c2) after ∙ ap (λ F. none (size c2) ++ F) f))
      ∙ ap (λ p. together (relax_part P one) p)
      (working_a_relaxation c2 (P ++ k1) after (ltb 0 (dropped k1)) (kept_whole k1) back (some_or_none (dropped k1)) f)
      ∙ relax_in_turn P one (λ K. work_relaxation c2 (kept_whole K) (P ++ K) back)))

  -- all the requests as one part
  pub working_carries_out_a_conflict : (t : Tree) → CarriesOut (work_conflict t [] [] []) (halve_conflict ok t 0 false [])
  working_carries_out_a_conflict t =
      rw (working_a_conflict t 0 false [] [] [] (unfold kept in refl) (unfold all in refl)) (record { set = sym (append-nil _); asked = refl })

  pub working_carries_out_a_relaxation : (t : Tree) → CarriesOut (work_relaxation t true [] []) (halve_relax ok t [] 0 false)
  working_carries_out_a_relaxation t =
      rw (working_a_relaxation t [] 0 false true [] refl (unfold none in refl)) (record { set = refl; asked = refl })

  -- the shared start
  pub the_start_is_asked : (n : ℕ) (whole : Selection) (work : Asking Selection) (p : Part) → CarriesOut work p
      → answer_of ok (shared_start n whole work) ≡ answered ok n whole p
  unfolding found_by questions_of ◌>>=◌ shared_start answered
  the_start_is_asked n whole work p c = go (ok (all n)) (eqb n 0) (ok (none n)) refl refl refl
    where
      go : (a z h : Bool) → ok (all n) ≡ a → eqb n 0 ≡ z → ok (none n) ≡ h → answer_of ok (shared_start n whole work) ≡ answered ok n whole p
      go true z h i j k = rw (i, found_by, questions_of)
      go false true h i j k = rw (i, j, found_by, questions_of)
      go false false false i j k = rw (i, j, k, found_by, questions_of)
      go false false true i j k = rw (i, j, k, found_by, questions_of) (simp (found_in_turn, asked_in_turn, c.set, c.asked, add-zero, two_more))
