-- What `stands` says in a reader's words.
use Rattle.std.proofs.Common.{ℕ, zero, suc, ◌+◌, ◌<◌, ◌≤◌, ◌≡◌, refl, ap, ◌∙◌, ◌⊎◌, inl, inr, ◌↔◌, Bool, true, false, ◌||◌}
use Rattle.std.proofs.Common.{List, [], ◌∷◌, arith, eqb, length, drop, get_or, drop_of_length-le, drop-cons, eq-eqb, eqb-true}
use mathlib.Core.Bool.{or-true}
use mathlib.Core.List.{Memᴰ}
use Rattle.table.specs.Rows.{Row}
use Rattle.meaning.specs.Meaning.{Setting, meets, role_of, counts, respects, meets_all}
use Rattle.meaning.specs.Stands.{some_setting, stands, Meeting}
use Rattle.meaning.proofs.Tested.{every_member, member_every}

-- a setting of so many values that passes a test
pub record Passing (test : Setting → Bool) (many : ℕ) : Type 0 where
  pub setting : Setting
  pub each : length setting ≡ many
  pub passes : test setting ≡ true

module _ (test : Setting → Bool) where
  of_either : (a b : Bool) (many : ℕ) → (a || b) ≡ true → (a ≡ true → Passing test many) → (b ≡ true → Passing test many) → Passing test many
  of_either true b many e f g = f e
  of_either false b many e f g = g e

  counted_on : (m k : ℕ) → m ≡ k → Passing test m → Passing test k
  counted_on m k e p = record { setting = p.setting; each = p.each ∙ e; passes = p.passes }

  -- where some setting with these decided values passes, there is one
  some_passes : (n : ℕ) (decided : Setting) → some_setting n decided test ≡ true → Passing test (n + length decided)
  unfolding some_setting
  some_passes zero decided e = record { setting = decided; each = omega arith; passes = e }
  some_passes (suc n) decided e =
      of_either (some_setting n (false ∷ decided) test) (some_setting n (true ∷ decided) test) (suc n + length decided) e
      (λ zeroth. counted_on (n + length (false ∷ decided)) (suc n + length decided) (omega arith) (some_passes n (false ∷ decided) zeroth))
      (λ first. counted_on (n + length (true ∷ decided)) (suc n + length decided) (omega arith) (some_passes n (true ∷ decided) first))

  either_value : (f : Bool → Bool) (value : Bool) → f value ≡ true → (f false || f true) ≡ true
  either_value f false e = rw e
  either_value f true e = rw e (or-true (f false))

  -- the next value of a setting
  next_value : (n : ℕ) (s : Setting) {decided : Setting} → n < length s → drop (suc n) s ≡ decided → drop n s ≡ get_or s n false ∷ decided
  next_value n s h e = drop-cons s n false h ∙ ap (λ (l : Setting). get_or s n false ∷ l) e

  -- where one setting with these decided values passes, some setting does
  passes_some : (n : ℕ) (decided s : Setting) → n ≤ length s → drop n s ≡ decided → test s ≡ true → some_setting n decided test ≡ true
  unfolding some_setting
  passes_some zero decided s h e p = rw (← e) p
  passes_some (suc n) decided s h e p =
      either_value (λ (value : Bool). some_setting n (value ∷ decided) test) (get_or s n false)
      (passes_some n (get_or s n false ∷ decided) s (omega arith) (next_value n s (omega arith) e) p)

module _ (rows : List Row) (v : ℕ) (chosen : ℕ → Bool) where
  counted_meets : (setting : Setting) (row : Row) → respects chosen setting row ≡ true → counts chosen (role_of row) ≡ true → meets setting row ≡ true
  unfolding respects
  counted_meets setting row e c = rw c at e

  respected :
      (setting : Setting) (row : Row) (counting : Bool) →
      counts chosen (role_of row) ≡ counting →
      (counts chosen (role_of row) ≡ true → meets setting row ≡ true) →
      respects chosen setting row ≡ true
  unfolding respects
  respected setting row true e f = rw e (f e)
  respected setting row false e f = rw e

  counted : (role : ℕ) → counts chosen role ≡ true → (role ≡ 0) ⊎ (chosen role ≡ true)
  unfolding counts
  counted role e = go (eqb role 0) refl e
    where
      go : (host : Bool) → eqb role 0 ≡ host → (host || chosen role) ≡ true → (role ≡ 0) ⊎ (chosen role ≡ true)
      go true p e = inl (eqb-true role 0 p)
      go false p e = inr e

  -- a setting that meets all that counts, in the two ways to say it
  pub meets_each : (setting : Setting) → length setting ≡ v → meets_all chosen setting rows ≡ true → Meeting rows v chosen setting
  unfolding meets_all counts
  meets_each setting h e =
      record {
        each = h;
        meets_host = λ row m host. counted_meets setting row (every_member (respects chosen setting) row rows e m) (rw (eq-eqb (role_of row) 0 host));
        meets_chosen = λ row m is. counted_meets setting row (every_member (respects chosen setting) row rows e m) (rw is (or-true (eqb (role_of row) 0)));
      }

  pub each_meets : (setting : Setting) → Meeting rows v chosen setting → meets_all chosen setting rows ≡ true
  unfolding meets_all
  each_meets setting m = member_every (respects chosen setting) rows (λ row here. one row here (counts chosen (role_of row)) refl)
    where
      met : (row : Row) → Memᴰ row rows → (role_of row ≡ 0) ⊎ (chosen (role_of row) ≡ true) → meets setting row ≡ true
      met row here (inl host) = m.meets_host row here host
      met row here (inr is) = m.meets_chosen row here is

      one : (row : Row) → Memᴰ row rows → (counting : Bool) → counts chosen (role_of row) ≡ counting → respects chosen setting row ≡ true
      one row here counting e = respected setting row counting e (λ c. met row here (counted (role_of row) c))

  -- a setting of v values has nothing beyond them
  nothing_above : (setting : Setting) → length setting ≡ v → drop v setting ≡ []
  nothing_above setting h = drop_of_length-le setting {i = v} (omega arith)

  -- the selection stands where a setting meets all that counts
  pub meets_stands : (setting : Setting) → length setting ≡ v → meets_all chosen setting rows ≡ true → stands rows v chosen ≡ true
  unfolding stands
  meets_stands setting h e = passes_some (λ s. meets_all chosen s rows) v [] setting (omega arith) (nothing_above setting h) e

  -- where it stands, there is such a setting
  pub stands_meets : stands rows v chosen ≡ true → Passing (λ setting. meets_all chosen setting rows) v
  unfolding stands
  stands_meets e = counted_on _ (v + length {A = Bool} []) v (omega arith) (some_passes (λ setting. meets_all chosen setting rows) v [] e)

  -- the law for readers: a selection stands exactly where there is a setting of v values that meets every host row and every row of a chosen request
  pub stands_exactly : (stands rows v chosen ≡ true) ↔ ((setting : Setting) × Meeting rows v chosen setting)
  stands_exactly = (
    λ e. let found = stands_meets e in (found.setting, meets_each found.setting found.each found.passes),
    λ p. meets_stands p.0 p.1.each (each_meets p.0 p.1),
  )
