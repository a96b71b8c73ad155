-- Each way out of a look at a half-made setting.
use Rattle.std.proofs.Common.{sym, ◌≡◌, ℕ, ◌<◌, Bool, true, false, ltb, List, ◌++◌, length, get_or, take, drop, refl, arith, IsPermutation, Ok, Err}
use Rattle.std.proofs.Common.{ltb-true, ltb-false}
use Rattle.std.specs.List.{AllWithin}
use Rattle.std.proofs.lemmas.List.{get_or-take, length-take, length-take-le}
use Rattle.std.proofs.lemmas.List.Elements.{All-take}
use Rattle.std.proofs.lemmas.List.Sorted.{IsPermutation-sym, IsPermutation-trans, All-permutation}
use Rattle.meaning.specs.Meaning.{Setting}
use Rattle.meaning.specs.HalfMade.{Values, is_free, Agrees}
use Rattle.meaning.proofs.HalfMade.{free_below, settled, settled_agrees}
use Rattle.meaning.proofs.Pruning.{decided_meets}
use Rattle.choice.specs.Chosen.{AllDecided}
use Rattle.question.specs.declared.narrowing.FailedRow.{FailedRow}
use Rattle.question.specs.declared.looking.Seen.TheVariants.{Fails, Met}
use Rattle.question.specs.Completing.{Completion, MeetsAt, MeetsEach}
use Rattle.question.specs.Narrowing.{OpenInFront, Reduced, Narrowed}
use Rattle.question.specs.Looking.{Looked}
use Rattle.question.proofs.Rearranging.{front_rearranged}

-- a completion stays one for a test that passes where the other does
pub passing_too :
    {One Other : Setting → Type 0} {values : Values} →
    ((setting : Setting) → Agrees values setting → One setting → Other setting) →
    Completion One values →
    Completion Other values
passing_too more found = record { setting = found.setting; agrees = found.agrees; passes = more found.setting found.agrees found.passes }

-- rows that are met in one arrangement are met in another
module _ (t before after : List ℕ) (moved : IsPermutation before after) (setting : Setting) where
  pub met_after : MeetsEach t before setting → MeetsEach t after setting
  met_after met = record { each = All-permutation (MeetsAt t setting) before after moved met.each }

  pub met_before : MeetsEach t after setting → MeetsEach t before setting
  met_before met = record { each = All-permutation (MeetsAt t setting) after before (IsPermutation-sym before after moved) met.each }

-- and so are the first of them
pub met_front : (t places : List ℕ) (few : ℕ) (setting : Setting) → MeetsEach t places setting → MeetsEach t (take few places) setting
met_front t places few setting met = record { each = All-take (MeetsAt t setting) few places met.each }

-- a setting that meets the rows that are left meets all, where it meets the others
pub met_parts :
    (t places : List ℕ) (left : ℕ) (setting : Setting) →
    AllWithin (MeetsAt t setting) places left (length places) →
    MeetsEach t (take left places) setting →
    MeetsEach t places setting
met_parts t places left setting others met = record { each = λ k d h. at_place k d h (ltb k left) refl }
  where
    at_place : (k d : ℕ) → k < length places → (less : Bool) → ltb k left ≡ less → MeetsAt t setting (get_or places k d)
    at_place k d h true p =
        let below : k < left = ltb-true k left p in
        rw (get_or-take left places k d below) at (met.each k d (omega (arith, length-take left places)))
    at_place k d h false p = others k d (ltb-false k left p) h

-- so it does where it has the decided values
pub met_whole :
    (t : List ℕ) (values : Values) (places : List ℕ) (left : ℕ) →
    OpenInFront t values places left →
    (setting : Setting) →
    Agrees values setting →
    MeetsEach t (take left places) setting →
    MeetsEach t places setting
met_whole t values places left in_front setting agrees =
    met_parts t places left setting (λ k d after h. in_front.hold k d after h setting agrees)

-- some row fails
pub row_fails :
    {t : List ℕ} {values : Values} {before after : List ℕ} {failed : FailedRow} →
    Reduced t values before after (Err failed) →
    Looked t values before after Fails
row_fails reduced = record { rearranged = reduced.rearranged; tells = reduced.tells }

module _ {t : List ℕ} {values : Values} {before after : List ℕ} {left : ℕ} (reduced : Reduced t values before after (Ok left)) where
  -- the rows that are left decide
  whole : (setting : Setting) → Agrees values setting → MeetsEach t (take left after) setting → MeetsEach t before setting
  whole setting agrees met = met_before t before after reduced.rearranged setting (met_whole t values after left reduced.tells setting agrees met)

  part : (setting : Setting) → Agrees values setting → MeetsEach t before setting → MeetsEach t (take left after) setting
  part setting agrees met = met_front t after left setting (met_after t before after reduced.rearranged setting met)

  -- no row is open
  pub none_open : left ≡ 0 → Looked t values before after Met
  none_open e =
      record {
        rearranged = reduced.rearranged;
        tells = passing_too whole (record {
          setting = settled values;
          agrees = settled_agrees values;
          passes = record {
            each = λ k d h. let long : length (take left after) ≡ left = length-take-le left after reduced.tells.few in absurd (omega arith);
          };
        });
      }

  -- no variable is free: some row cannot be met, or the one completion meets them all
  module _ {front : List ℕ} where
    moved_on : IsPermutation (take left after) front → IsPermutation before (front ++ drop left after)
    moved_on moved =
        IsPermutation-trans before after (front ++ drop left after) reduced.rearranged (front_rearranged after front left moved)

    pub not_met : {failed : FailedRow} → Narrowed t values (take left after) front (Err failed) → Looked t values before (front ++ drop left after) Fails
    not_met narrowed =
        record { rearranged = moved_on narrowed.reduced.rearranged; tells = λ found. narrowed.reduced.tells (passing_too part found) }

    pub met_all :
        {again : ℕ} →
        Narrowed t values (take left after) front (Ok again) →
        AllDecided values (length values) →
        Looked t values before (front ++ drop left after) Met
    met_all {again = again} narrowed decided =
        record {
          rearranged = moved_on narrowed.reduced.rearranged;
          tells = passing_too whole (record { setting = settled values; agrees = settled_agrees values; passes = all_met });
        }
      where
        none : (other : ℕ) → is_free values other ≡ false
        none = free_below values decided.each

        open_met : MeetsEach t (take again front) (settled values)
        open_met =
            record {
              each = λ k d h.
                  let long : length (take again front) ≡ again = length-take-le again front narrowed.reduced.tells.few in
                  let below : k < again = omega arith in
                  rw (get_or-take again front k d below)
                  (decided_meets values (settled values) (settled_agrees values) none _ (λ fails. narrowed.may_hold k d (omega arith) below (sym fails)));
            }

        all_met : MeetsEach t (take left after) (settled values)
        all_met =
            met_before t (take left after) front narrowed.reduced.rearranged (settled values)
            (met_whole t values front again narrowed.reduced.tells (settled values) (settled_agrees values) open_met)
