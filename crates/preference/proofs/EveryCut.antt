-- Halving finds the one-by-one set for every cut, where the question is monotone over the n requests.
-- A question is guarded so that it is monotone over all lists: of another length nothing stands.
use Rattle.std.proofs.Common.{◌≡◌, refl, sym, ap, ◌∙◌, Bool, true, false, ◌&&◌, [], ℕ, arith, length, eqb, eq-eqb, eqb-true}
use Rattle.preference.specs.Selection.{Selection, all, none, ◌⊆◌}
use Rattle.preference.specs.Question.{Question, Monotone}
use Rattle.preference.specs.OneByOne.{one_conflict, one_relax}
use Rattle.preference.specs.Cut.{Tree, size}
use Rattle.preference.specs.Halving.{halve_conflict, halve_relax}
use Rattle.preference.proofs.Selections.{length-all, length_none, subset-length}
use Rattle.preference.proofs.SameSet.{halving_finds_the_one_by_one_conflict, halving_finds_the_one_by_one_relaxation}
use Rattle.preference.proofs.Questions.{one_conflict_agrees, one_relax_agrees, halve_conflict_agrees, halve_relax_agrees}

guarded : Question → ℕ → Question
guarded ok n X = eqb (length X) n && ok X

guarded_agrees : (ok : Question) (n : ℕ) (X : Selection) → length X ≡ n → ok X ≡ guarded ok n X
unfolding guarded
guarded_agrees ok n X e = rw (eq-eqb (length X) n e)

guarded_monotone : (ok : Question) (n : ℕ) → Monotone ok n → (X Y : Selection) → X ⊆ Y → guarded ok n Y ≡ true → guarded ok n X ≡ true
unfolding guarded
guarded_monotone ok n monotone X Y r h = go (eqb (length Y) n) refl h
  where
    go : (b : Bool) → eqb (length Y) n ≡ b → b && ok Y ≡ true → eqb (length X) n && ok X ≡ true
    go false e g = cc
    go true e g =
        let l : length Y ≡ n = eqb-true (length Y) n e in
        rw (eq-eqb (length X) n (subset-length r ∙ l)) (monotone X Y l r g)

module _ (ok : Question) (n : ℕ) (monotone : Monotone ok n) (t : Tree) (sized : size t ≡ n) where
  abbrev guard : Question
  guard = guarded ok n

  pub halving_conflict_is_one_by_one : ok (none n) ≡ true → (halve_conflict ok t 0 false []).set ≡ (one_conflict ok n []).set
  halving_conflict_is_one_by_one h =
      let stands : guard (none (size t)) ≡ true = rw sized (sym (guarded_agrees ok n (none n) (length_none n)) ∙ h) in
      ap (λ p. p.set) (halve_conflict_agrees ok guard n (guarded_agrees ok n) t 0 false [] (omega arith))
      ∙ (rw sized at (halving_finds_the_one_by_one_conflict guard (guarded_monotone ok n monotone) t stands))
      ∙ sym (ap (λ p. p.set) (one_conflict_agrees ok guard n (guarded_agrees ok n) n [] (omega arith)))

  pub halving_relaxation_is_one_by_one : ok (all n) ≡ false → (halve_relax ok t [] 0 false).set ≡ (one_relax ok [] n).set
  halving_relaxation_is_one_by_one h =
      let fails : guard (all (size t)) ≡ false = rw sized (sym (guarded_agrees ok n (all n) (length-all n)) ∙ h) in
      ap (λ p. p.set) (halve_relax_agrees ok guard n (guarded_agrees ok n) t [] 0 false (omega arith))
      ∙ (rw sized at (halving_finds_the_one_by_one_relaxation guard (guarded_monotone ok n monotone) t fails))
      ∙ sym (ap (λ p. p.set) (one_relax_agrees ok guard n (guarded_agrees ok n) [] n (omega arith)))
