-- Each turn of the search's loop.
use Rattle.std.proofs.Common.{◌≡◌, ℕ, ◌+◌, ◌<◌, true, false, List, ◌∷◌, ◌++◌, length, get_or, take, drop, set, Some, None, arith}
use Rattle.meaning.specs.HalfMade.{Values, undecided}
use Rattle.question.specs.declared.looking.Seen.{Seen}
use Rattle.question.specs.declared.looking.Seen.TheVariants.{Fails, Met, Open}
use Rattle.question.specs.declared.trail.Decided.{Decided}
use Rattle.choice.specs.declared.choosing.Decision.{Decision}
use Rattle.meaning.proofs.HalfMade.{fewer_undecided}
use Rattle.question.specs.Completing.{Completed, MeetsEach}
use Rattle.question.specs.Looking.{Looked}
use Rattle.question.specs.Trail.{EachInside, back_to, values_back, other_value, TakenBack}
use Rattle.question.proofs.Rearranging.{EachAsked, asked_open}
use Rattle.question.proofs.Decisions.{back_keeps, back_waits}
use Rattle.question.proofs.Branches.{nodes, ahead, Waits, path_inside, path_length}
use Rattle.question.proofs.Searching.{Reached, Failed, found_all, inside, branch_fails, decided_next, fewer_nodes}
use Rattle.question.proofs.Searching.{failed_back, none_left, last_waits, turned, fewer_turned}

module _ {t start : List ℕ} {base : Values} where
  module _ {places : List ℕ} {trail : List Decided} {count : ℕ} {values : Values} (reached : Reached t start base places trail count values) where
    -- the rows may be looked at
    pub may_look : EachAsked t (length base) start → EachAsked t (length values) (take count places)
    may_look asked =
        rw (path_length t start base places trail count values reached.path)
        (asked_open reached.moved (inside reached) asked)

    -- decisions may be taken back
    pub may_take_back : EachInside values trail
    may_take_back = path_inside t start base places trail count values reached.path

    module _ {front : List ℕ} {seen : Seen} (looked : Looked t values (take count places) front seen) where
      -- the rows are met
      pub look_met : seen ≡ Met → Completed (MeetsEach t start) base true
      look_met e =
          record { found = λ _. found_all reached (rw e at looked.tells); none = λ wrong. absurd (let z : ⊥ = cc in z) }

      -- some row fails
      pub look_fails :
          seen ≡ Fails → Failed t start base (nodes (undecided values) + ahead trail values) (front ++ drop count places) count trail values
      look_fails e = branch_fails reached looked.rearranged (rw e at looked.tells)

      -- a decision is made
      module _ {decision : Decision} {left : ℕ} (is_open : seen ≡ Open decision left) where
        pub trail_room : length trail < length base
        trail_room =
            let tells = rw is_open at looked.tells in
            omega (arith, reached.room, fewer_undecided values decision.variable tells.undecided.inside tells.undecided.free false)

        pub one_deeper :
            Reached t start base (front ++ drop count places) (record { variable = decision.variable; waiting = left } ∷ trail)
            left (set values decision.variable (Some decision.first))
        one_deeper = decided_next reached looked.rearranged (rw is_open at looked.tells)

        pub fewer_deeper :
            (wait : ℕ) →
            nodes (undecided (set values decision.variable (Some decision.first)))
            + ahead (record { variable = decision.variable; waiting = wait } ∷ trail) (set values decision.variable (Some decision.first))
            < nodes (undecided values) + ahead trail values
        fewer_deeper wait =
            fewer_nodes reached looked.rearranged (rw is_open at looked.tells) wait

  module _ {many : ℕ} {places : List ℕ} {count : ℕ} {trail : List Decided} {values : Values}
      (failed : Failed t start base many places count trail values) where
    failed_taken : Failed t start base many places count (back_to trail) (values_back trail values)
    failed_taken = back_keeps (Failed t start base many places count) failed_back trail values failed

    -- all is tried
    pub search_fails :
        {earlier : List Decided} {now-values : Values} → TakenBack trail values None earlier now-values → Completed (MeetsEach t start) base false
    search_fails taken =
        record {
          found = λ wrong. absurd (let z : ⊥ = cc in z);
          none = λ _. none_left (rw taken.last.0 at failed_taken);
        }

    module _ {last : Decided} {earlier : List Decided} {now-values : Values} (taken : TakenBack trail values (Some last) earlier now-values) where
      failed_last : Failed t start base many places count (last ∷ earlier) now-values
      failed_last = rw (taken.values_back, ← taken.last) failed_taken

      rows_wait : 0 < last.waiting
      rows_wait = back_waits trail last earlier taken.last

      pub last_decision : Waits t start base places count now-values last
      last_decision = last_waits failed_last rows_wait

      -- there is room for it again
      pub room_again : length earlier < length base
      room_again = omega (arith, failed_last.room)

      -- its other value is tried
      pub turned_back :
          Reached t start base places (record { variable = last.variable; waiting = 0 } ∷ earlier)
          last.waiting (set now-values last.variable (other_value (get_or now-values last.variable (Some false))))
      turned_back = turned failed_last rows_wait

      pub fewer_back :
          nodes (undecided (set now-values last.variable (other_value (get_or now-values last.variable (Some false)))))
          + ahead (record { variable = last.variable; waiting = 0 } ∷ earlier)
          (set now-values last.variable (other_value (get_or now-values last.variable (Some false))))
          < many
      fewer_back = fewer_turned failed_last rows_wait
