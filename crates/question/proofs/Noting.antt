-- The walk that notes the places of the rows that count, and why they are all that a question asks about.
use Rattle.std.proofs.Common.{Ok, ◌≡◌, ℕ, zero, suc, ◌+◌, ◌<◌, ◌≤◌, Bool, true, false, cond, ◌&&◌, List, [], ◌∷◌, ◌++◌, length, get_or, take, set, All}
use Rattle.std.proofs.Common.{refl, sym, ap, ◌∙◌, arith, add-one, add-zero, append_assoc}
use Rattle.std.proofs.lemmas.List.{append-nil, take-set-le}
use Rattle.std.proofs.lemmas.List.Elements.{All-head, All-tail, All-filter}
use Rattle.std.proofs.Math.Seq.{take-suc-set}
use Rattle.std.proofs.Math.Dec.{eqb-suc-zero}
use mir.Val.{bool_byte}
use Rattle.table.specs.declared.record.Frame.{Frame}
use Rattle.table.specs.Lists.{every}
use Rattle.table.specs.Words.{u16_at}
use Rattle.table.specs.Rows.{rows, row_at, after}
use Rattle.table.specs.Reading.{reading}
use Rattle.table.specs.Kept.{RowKept, Kept, first_row}
use Rattle.table.proofs.Accepted.{accepted_keeps}
use Rattle.meaning.specs.Meaning.{Setting, value_of, meets, role_of, counts, respects, meets_all}
use Rattle.meaning.specs.Stands.{by_role}
use Rattle.meaning.proofs.OneRow.{row_long, row_role, role_at}
use Rattle.question.specs.MayAsk.{MayAsk}
use Rattle.question.specs.RowPlaces.{row_places}
use Rattle.question.specs.Counting.{counting_places, Noted}
use Rattle.question.proofs.Rearranging.{EachAsked}
use Rattle.question.proofs.Walking.{length-row_places, each_kept}

-- a row that counts is one more to meet, another changes nothing
one_row :
    (counting met rest : Bool) (test : ℕ → Bool) (at : ℕ) (places : List ℕ) →
    test at ≡ met →
    every test places ≡ rest →
    every test (cond counting (at ∷ places) places) ≡ (cond counting met true && rest)
one_row true met rest test at places e f = rw (e, f)
one_row false met rest test at places e f = f

-- a setting meets the rows at the places of those that count exactly where it meets all that counts
pub every_counting :
    (chosen : ℕ → Bool) (setting : Setting) (m : ℕ) (t : List ℕ) (at : ℕ) →
    every (λ place. meets setting (row_at t place)) (counting_places chosen t (row_places m t at)) ≡ meets_all chosen setting (rows m t at)
unfolding row_places rows meets_all respects
every_counting chosen setting zero t at = refl
every_counting chosen setting (suc m) t at =
    one_row (counts chosen (role_of (row_at t at))) (meets setting (row_at t at)) _
    (λ place. meets setting (row_at t place)) at (counting_places chosen t (row_places m t (after t at))) refl (every_counting chosen setting m t (after t at))

-- the search may read the rows at these places
pub noted_asked :
    (t : List ℕ) (f : Frame) (chosen : List Bool) (places : List ℕ) (noted variables : ℕ) →
    Kept t f →
    Noted (by_role chosen) f.rows t places noted →
    variables ≡ f.variables →
    EachAsked t variables (take noted places)
noted_asked t f chosen places noted variables kept counting h =
    record {
      few = omega arith;
      each = λ i below.
          record {
            requests = f.requests;
            row_kept = rw (h, counting.places_noted) (those_kept i 0 (omega (arith, ap length counting.places_noted)));
          };
    }
  where
    those_kept : All (RowKept f.variables f.requests t) (counting_places (by_role chosen) t (row_places f.rows t first_row))
    those_kept =
        All-filter (λ place. counts (by_role chosen) (role_of (row_at t place))) (RowKept f.variables f.requests t) (row_places f.rows t first_row)
        (each_kept {v = f.variables} {n = f.requests} {t = t} f.rows first_row f.order kept.rows_kept)

-- with the host's entry true, what counts is what is chosen
counts_chosen : (chosen : List Bool) → get_or chosen 0 false ≡ true → (role : ℕ) → counts (by_role chosen) role ≡ get_or chosen role false
unfolding counts
counts_chosen chosen host zero = sym host
counts_chosen chosen host (suc role) = rw (eqb-suc-zero role)

-- a row takes up one place where it counts
taken_up : (counting : Bool) (taken : ℕ) → taken ≡ bool_byte counting → (taken ≡ value_of counting) × (taken ≤ 1)
unfolding value_of
taken_up true taken e = (e, omega arith)
taken_up false taken e = (e, omega arith)

-- a place is written behind those that are noted, and stays where its row counts
place_written :
    (counting : Bool) (places : List ℕ) (noted at : ℕ) (more : List ℕ) → noted < length places →
    take (noted + value_of counting) (set places noted at) ++ more ≡ take noted places ++ cond counting (at ∷ more) more
unfolding value_of
place_written true places noted at more h = rw (add-one, take-suc-set places noted at h) (append_assoc (take noted places) (at ∷ []) more)
place_written false places noted at more h =
    ap (λ (l : List ℕ). l ++ more) (ap (λ (n : ℕ). take n (set places noted at)) (add-zero noted) ∙ take-set-le noted places noted at (omega arith))

-- how far the walk has come after so many rows: those that are left, and what is noted of the others
pub record Walked (t : List ℕ) (f : Frame) (chosen : List Bool) (rest : List ℕ) (steps noted : ℕ) (places : List ℕ) : Type 0 where
  pub kept : All (RowKept f.variables f.requests t) rest
  pub few : noted ≤ steps
  pub all : steps + length rest ≡ f.rows
  pub whole :
      take noted places ++ counting_places (by_role chosen) t rest ≡ counting_places (by_role chosen) t (row_places f.rows t first_row)

module _ {t : List ℕ} {f : Frame} {chosen : List Bool} where
  -- no row is walked over
  pub walk_starts : {places : List ℕ} → reading t ≡ Ok f → Walked t f chosen (row_places f.rows t first_row) 0 0 places
  walk_starts accepted =
      record {
        kept = each_kept {v = f.variables} {n = f.requests} {t = t} f.rows first_row f.order (accepted_keeps t f accepted).rows_kept;
        few = omega arith;
        all = omega (arith, length-row_places f.rows t first_row);
        whole = refl;
      }

  -- no row is left: the places of all that count are noted
  pub walk_ends :
      {steps noted : ℕ} {places : List ℕ} → f.rows ≤ length places → Walked t f chosen [] steps noted places → Noted (by_role chosen) f.rows t places noted
  walk_ends {noted = noted} {places = places} room walked =
      record { few = omega (arith, walked.few, walked.all); places_noted = sym (append-nil (take noted places)) ∙ walked.whole }

  module _ {place : ℕ} {rest : List ℕ} {steps noted : ℕ} {places : List ℕ} (walked : Walked t f chosen (place ∷ rest) steps noted places) where
    -- the row at hand is whole and in range
    row_here : RowKept f.variables f.requests t place
    row_here = All-head (RowKept f.variables f.requests t) place rest walked.kept

    -- so that its role stands in the table, and a list with an entry for each row has room for its place
    pub stands_here : reading t ≡ Ok f → (place + 6 ≤ length t) × (length t < 65536) × (noted < f.rows)
    stands_here accepted =
        let long = row_long f.variables f.requests t place row_here in
        (omega (arith, long, row_here.whole), omega (arith, (accepted_keeps t f accepted).short), omega (arith, walked.few, walked.all))

    module _ (asked : MayAsk f chosen) where
      -- its role is an entry of the selection
      pub role_there : {role : ℕ} → role ≡ u16_at t (place + 4) → role < length chosen
      role_there is = omega (arith, asked.each, row_role f.variables f.requests t place row_here)

      row_counts : (role : ℕ) → role ≡ u16_at t (place + 4) → counts (by_role chosen) (role_of (row_at t place)) ≡ get_or chosen role false
      row_counts role is = rw (role_at f.variables f.requests t place row_here, ← is) (counts_chosen chosen asked.host role)

      -- it is noted where it counts, and what is noted and what is still to come stay the whole
      pub walk_turns :
          {role taken later : ℕ} →
          later ≡ steps + 1 →
          noted < length places →
          role ≡ u16_at t (place + 4) →
          taken ≡ bool_byte (get_or chosen role false) →
          Walked t f chosen rest later (noted + taken) (set places noted place)
      walk_turns {role = role} {taken = taken} one inside is e =
          record {
            kept = All-tail (RowKept f.variables f.requests t) place rest walked.kept;
            few = omega (arith, walked.few, (taken_up (get_or chosen role false) taken e).1);
            all = omega (arith, walked.all);
            whole =
                rw ((taken_up (get_or chosen role false) taken e).0)
                (place_written (get_or chosen role false) places noted place (counting_places (by_role chosen) t rest) inside
                ∙ (rw (row_counts role is) at walked.whole));
          }
