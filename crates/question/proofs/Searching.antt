-- How far the search has come: the branch at hand, and those still to be tried, miss no completion.
use Rattle.std.proofs.Common.{◌≡◌, ℕ, zero, suc, ◌+◌, ◌<◌, ◌≤◌, ◌⊎◌, inl, inr, Bool, true, false, cond, eqb, List, [], ◌∷◌, ◌++◌}
use Rattle.std.proofs.Common.{length, get_or, take, drop, set, refl, ap, ◌∙◌, arith, eq-eqb, ne_eqb, IsPermutation, not, Option, Some, None, is_none}
use Rattle.std.proofs.Math.Logic.{⊎_elim}
use Rattle.std.proofs.Math.Seq.{set-set, take-length}
use Rattle.std.proofs.lemmas.List.{length-set, get_or-set_same, length-take-le, take-append-le}
use Rattle.std.proofs.lemmas.List.Sorted.{IsPermutation-refl, IsPermutation-trans, length_permutation}
use Rattle.meaning.specs.Meaning.{Setting}
use Rattle.meaning.specs.HalfMade.{Values, Agrees, undecided}
use Rattle.meaning.proofs.HalfMade.{agrees_freed, agrees_with, agrees_without, set_back, one_or_other}
use Rattle.meaning.proofs.HalfMade.{undecided_most, undecided_changed, undecided_turned, fewer_undecided}
use Rattle.choice.specs.declared.choosing.Decision.{Decision}
use Rattle.question.specs.declared.trail.Decided.{Decided}
use Rattle.question.specs.Trail.{other_value}
use Rattle.question.specs.Completing.{Completion, MeetsEach}
use Rattle.question.specs.Looking.{LeftOpen}
use Rattle.question.proofs.Rearranging.{front_rearranged}
use Rattle.question.proofs.Seeing.{passing_too, met_before, met_after, met_front, met_whole}
use Rattle.question.proofs.Branches.{nodes, ahead, open_in, Decides, Waits, Path, Pending, path_moved, path_fewer, path_agrees}

-- two trees over fewer variables have fewer nodes
some_nodes : (variables : ℕ) → 1 ≤ nodes variables
unfolding nodes
some_nodes zero = omega arith
some_nodes (suc variables) = omega arith

pub two_trees : (few many : ℕ) → few < many → nodes few + nodes few < nodes many
unfolding nodes
two_trees few zero h = absurd (omega arith)
two_trees zero (suc many) h = omega (arith, some_nodes many)
two_trees (suc few) (suc many) h = omega (arith, two_trees few many (omega arith))

module _ (t start : List ℕ) (base : Values) where
  -- the rows at the first `count` places decide for the branch at hand, and each completion lies in it or in one that is still to be tried
  pub record Reached (places : List ℕ) (trail : List Decided) (count : ℕ) (values : Values) : Type 0 where
    pub moved : IsPermutation start places
    pub here : Decides t start base places count values
    pub path : Path t start base places trail count values
    pub tried : Completion (MeetsEach t start) base → Completion (MeetsEach t start) values ⊎ Pending t start base trail values
    pub room : length trail + undecided values ≤ length base

  -- the branch at hand has failed, with fewer than `many` nodes still to be tried
  pub record Failed (many : ℕ) (places : List ℕ) (count : ℕ) (trail : List Decided) (values : Values) : Type 0 where
    pub moved : IsPermutation start places
    pub path : Path t start base places trail count values
    pub tried : Completion (MeetsEach t start) base → Pending t start base trail values
    pub room : length trail + undecided values ≤ length base
    pub fewer : ahead trail values < many

module _ {t start : List ℕ} {base : Values} where
  -- nothing is decided yet
  pub reached_start : Reached t start base start [] (length start) base
  unfolding Path
  reached_start =
      record {
        moved = IsPermutation-refl start;
        here = record { few = omega arith; enough = λ setting agrees met. rw (take-length start) at met };
        path = refl;
        tried = inl;
        room = omega (arith, undecided_most base);
      }

  module _ {places : List ℕ} {trail : List Decided} {count : ℕ} {values : Values} (reached : Reached t start base places trail count values) where
    -- a completion is found
    pub found_all : Completion (MeetsEach t (take count places)) values → Completion (MeetsEach t start) base
    found_all found =
        record {
          setting = found.setting;
          agrees = path_agrees t start base places trail count values found.setting reached.path found.agrees;
          passes = reached.here.enough found.setting found.agrees found.passes;
        }

    -- the rows at hand may be looked at
    pub inside : count ≤ length places
    inside = omega (arith, length_permutation start places reached.moved, reached.here.few)

    module _ {front : List ℕ} (moved : IsPermutation (take count places) front) where
      moved_on : IsPermutation start (front ++ drop count places)
      moved_on =
          IsPermutation-trans start places (front ++ drop count places) reached.moved (front_rearranged places front count moved)

      front_long : length front ≡ count
      front_long = length_permutation (take count places) front moved ∙ length-take-le count places inside

      path_on : Path t start base (front ++ drop count places) trail count values
      path_on = path_moved t start base places front count inside moved trail count values (omega arith) reached.path

      -- there is none in the branch at hand
      pub branch_fails :
          (Completion (MeetsEach t (take count places)) values → ⊥) →
          Failed t start base (nodes (undecided values) + ahead trail values) (front ++ drop count places) count trail values
      branch_fails none =
          record {
            moved = moved_on;
            path = path_on;
            tried = λ found. ⊎_elim (λ here. absurd (none (passing_too part here))) (λ pending. pending) (reached.tried found);
            room = reached.room;
            fewer = omega (arith, some_nodes (undecided values));
          }
        where
          part : (setting : Setting) → Agrees values setting → MeetsEach t start setting → MeetsEach t (take count places) setting
          part setting agrees met = met_front t places count setting (met_after t start places reached.moved setting met)

      -- rows are left open, and a variable is decided
      module _ {decision : Decision} {left : ℕ} (open_rows : LeftOpen t values front decision left) where
        fewer_open : left ≤ count
        fewer_open = omega (arith, open_rows.in_front.few, front_long)

        undone : set (set values decision.variable (Some decision.first)) decision.variable None ≡ values
        undone = set_back values decision.variable open_rows.undecided.inside open_rows.undecided.free (Some decision.first)

        given : get_or (set values decision.variable (Some decision.first)) decision.variable (Some false) ≡ Some decision.first
        given = get_or-set_same values decision.variable (Some decision.first) (Some false) open_rows.undecided.inside

        decides : Decides t start base (front ++ drop count places) left values
        decides =
            record {
              few = omega (arith, fewer_open, reached.here.few);
              enough = λ setting agrees met.
                  reached.here.enough setting agrees
                  (met_before t (take count places) front moved setting
                  (met_whole t values front left open_rows.in_front setting agrees
                  (rw (take-append-le left front (drop count places) open_rows.in_front.few) at met)));
            }

        waits :
            Waits t start base (front ++ drop count places) left (set values decision.variable (Some decision.first))
            (record { variable = decision.variable; waiting = left })
        waits =
            record {
              inside = simp length-set open_rows.undecided.inside;
              value = decision.first;
              decided = given;
              more = λ some. omega arith;
              decide = λ some. rw undone decides;
            }

        same_open : open_in left left ≡ left
        same_open = go (eqb left 0)
          where
            go : (none : Bool) → cond none left left ≡ left
            go true = refl
            go false = refl

        one_of_two :
            Completion (MeetsEach t start) values →
            Completion (MeetsEach t start) (set values decision.variable (Some decision.first))
            ⊎ Completion (MeetsEach t start) (set values decision.variable (Some (not decision.first)))
        one_of_two found =
            ⊎_elim (λ e. inl (with_value decision.first e)) (λ e. inr (with_value (not decision.first) e))
            (one_or_other decision.first (get_or found.setting decision.variable false))
          where
            with_value :
                (value : Bool) →
                get_or found.setting decision.variable false ≡ value →
                Completion (MeetsEach t start) (set values decision.variable (Some value))
            with_value value e =
                record {
                  setting = found.setting;
                  agrees = agrees_with values decision.variable open_rows.undecided.inside open_rows.undecided.free value found.setting found.agrees e;
                  passes = found.passes;
                }

        pub decided_next :
            Reached t start base (front ++ drop count places) (record { variable = decision.variable; waiting = left } ∷ trail)
            left (set values decision.variable (Some decision.first))
        unfolding Path Pending
        decided_next =
            record {
              moved = moved_on;
              here = record {
                few = decides.few;
                enough = λ setting agrees.
                    decides.enough setting
                    (agrees_without values decision.variable open_rows.undecided.inside open_rows.undecided.free (Some decision.first) setting agrees);
              };
              path = (waits, rw (undone, same_open) (path_fewer t start base (front ++ drop count places) trail left count values fewer_open path_on));
              tried = λ found. ⊎_elim
                  (λ here. ⊎_elim inl
                  (λ other. inr (inl (open_rows.some, rw (given, set-set values decision.variable (Some decision.first) (Some (not decision.first))) other)))
                  (one_of_two here))
                  (λ pending. inr (inr (rw undone pending))) (reached.tried found);
              room = omega (
                arith,
                reached.room,
                fewer_undecided values decision.variable open_rows.undecided.inside open_rows.undecided.free decision.first,
              );
            }

        -- fewer nodes are left, however many rows are said to wait
        pub fewer_nodes :
            (waiting : ℕ) →
            nodes (undecided (set values decision.variable (Some decision.first)))
            + ahead (record { variable = decision.variable; waiting = waiting } ∷ trail) (set values decision.variable (Some decision.first))
            < nodes (undecided values) + ahead trail values
        unfolding ahead
        fewer_nodes waiting = rw undone (go (eqb waiting 0))
          where
            less :
                nodes (undecided (set values decision.variable (Some decision.first))) + nodes (undecided (set values decision.variable (Some decision.first)))
                < nodes (undecided values)
            less =
                two_trees (undecided (set values decision.variable (Some decision.first))) (undecided values)
                (fewer_undecided values decision.variable open_rows.undecided.inside open_rows.undecided.free decision.first)

            go :
                (none : Bool) →
                nodes (undecided (set values decision.variable (Some decision.first)))
                + (cond none 0 (nodes (undecided (set values decision.variable (Some decision.first)))) + ahead trail values)
                < nodes (undecided values) + ahead trail values
            go true = omega (arith, less)
            go false = omega (arith, less)

  module _ {many : ℕ} {places : List ℕ} {count : ℕ} where
    -- both values of the last decision are tried
    pub failed_back :
        (last : Decided) (earlier : List Decided) (values : Values) →
        last.waiting ≡ 0 →
        Failed t start base many places count (last ∷ earlier) values →
        Failed t start base many places count earlier (set values last.variable None)
    unfolding Path Pending ahead
    failed_back last earlier values e failed =
        record {
          moved = failed.moved;
          path = rw (eq-eqb last.waiting 0 e) at failed.path.1;
          tried = λ found. ⊎_elim (λ here. absurd (omega (arith, here.0))) (λ pending. pending) (failed.tried found);
          room = omega (arith, failed.room, undecided_changed values last.variable None);
          fewer = let fewer : 0 + ahead earlier (set values last.variable None) < many = rw (eq-eqb last.waiting 0 e) at failed.fewer in omega arith;
        }

    -- nothing is left to be tried
    pub none_left : {values : Values} → Failed t start base many places count [] values → Completion (MeetsEach t start) base → ⊥
    unfolding Pending
    none_left failed = failed.tried

    -- the other value of the last decision is tried
    module _ {last : Decided} {earlier : List Decided} {values : Values}
        (failed : Failed t start base many places count (last ∷ earlier) values) (some : 0 < last.waiting) where
      pub last_waits : Waits t start base places count values last
      unfolding Path
      last_waits = failed.path.0

      before : Path t start base places earlier last.waiting (set values last.variable None)
      unfolding Path
      before = let there : last.waiting ≡ 0 → ⊥ = λ e. omega arith in rw (ne_eqb last.waiting 0 there) at failed.path.1

      freed_again : (value : Option Bool) → set (set values last.variable value) last.variable None ≡ set values last.variable None
      freed_again value = set-set values last.variable value None

      -- its variable is decided, and as many are undecided with the other value
      other_is : other_value (get_or values last.variable (Some false)) ≡ Some (not last_waits.value)
      other_is = ap other_value last_waits.decided

      as_many : undecided (set values last.variable (other_value (get_or values last.variable (Some false)))) ≡ undecided values
      as_many = rw other_is (undecided_turned values last.variable (not last_waits.value) (ap is_none last_waits.decided))

      pub turned :
          Reached t start base places (record { variable = last.variable; waiting = 0 } ∷ earlier)
          last.waiting (set values last.variable (other_value (get_or values last.variable (Some false))))
      unfolding Path Pending
      turned =
          record {
            moved = failed.moved;
            here = record {
              few = (last_waits.decide some).few;
              enough = λ setting agrees.
                  (last_waits.decide some).enough setting
                  (rw (freed_again (other_value (get_or values last.variable (Some false)))) at
                  (agrees_freed (set values last.variable (other_value (get_or values last.variable (Some false))))
                  last.variable setting (simp length-set last_waits.inside) agrees));
            };
            path = (
              record {
                inside = simp length-set last_waits.inside;
                value = not last_waits.value;
                decided =
                    get_or-set_same values last.variable (other_value (get_or values last.variable (Some false))) (Some false) last_waits.inside ∙ other_is;
                more = λ h. absurd (omega arith);
                decide = λ h. absurd (omega arith);
              },
              rw (freed_again (other_value (get_or values last.variable (Some false)))) before,
            );
            tried = λ found.
                ⊎_elim (λ here. inl here.1)
                (λ pending. inr (inr (rw (freed_again (other_value (get_or values last.variable (Some false)))) pending))) (failed.tried found);
            room = omega (arith, failed.room, as_many);
          }

      pub fewer_turned :
          nodes (undecided (set values last.variable (other_value (get_or values last.variable (Some false)))))
          + ahead (record { variable = last.variable; waiting = 0 } ∷ earlier)
          (set values last.variable (other_value (get_or values last.variable (Some false))))
          < many
      unfolding ahead
      fewer_turned =
          let there : last.waiting ≡ 0 → ⊥ = λ e. omega arith in
          let fewer : nodes (undecided values) + ahead earlier (set values last.variable None) < many =
          rw (ne_eqb last.waiting 0 there) at failed.fewer in
          rw (
            as_many,
            freed_again (other_value (get_or values last.variable (Some false))),
          ) (omega arith)
