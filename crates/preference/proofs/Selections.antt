-- Laws of selections: all and none of the requests, subsets, and how many are kept and dropped.
use Rattle.std.proofs.Common.{◌≡◌, refl, sym, ap, Bool, true, false, not, List, [], ◌∷◌, ◌++◌, ℕ, zero, suc, ◌+◌, ◌<◌, arith, length, get_or, replicate}
use Rattle.std.proofs.Math.ListN.{length-replicate, replicate-append-replicate}
use Rattle.preference.specs.Selection.{Selection, all, none, kept, dropped, ◌⊆◌, ends, same, more}
use Rattle.preference.specs.Named.{named}

pub length-all : (n : ℕ) → length (all n) ≡ n
unfolding all
length-all n = length-replicate n true

pub length_none : (n : ℕ) → length (none n) ≡ n
unfolding none
length_none n = length-replicate n false

pub all-add : (m n : ℕ) → all (m + n) ≡ all m ++ all n
unfolding all
all-add m n = sym (replicate-append-replicate m n true)

pub none-add : (m n : ℕ) → none (m + n) ≡ none m ++ none n
unfolding none
none-add m n = sym (replicate-append-replicate m n false)

-- one more, before or after as many
again : (b : Bool) (n : ℕ) (S : Selection) → replicate n b ++ (b ∷ S) ≡ b ∷ (replicate n b ++ S)
again b zero S = refl
again b (suc n) S = ap {B = Selection} (λ X. b ∷ X) (again b n S)

pub all_then_all : (n : ℕ) (S : Selection) → all n ++ (true ∷ S) ≡ all (suc n) ++ S
unfolding all
all_then_all n S = again true n S

pub none_then_none : (n : ℕ) (S : Selection) → none n ++ (false ∷ S) ≡ none (suc n) ++ S
unfolding none
none_then_none n S = again false n S

pub subset_refl : (X : Selection) → X ⊆ X
subset_refl [] = ends
subset_refl (b ∷ X) = same (subset_refl X)

pub subset-append : {X Y A B : Selection} → X ⊆ Y → A ⊆ B → (X ++ A) ⊆ (Y ++ B)
subset-append ends s = s
subset-append (same r) s = same (subset-append r s)
subset-append (more r) s = more (subset-append r s)

pub subset-length : {X Y : Selection} → X ⊆ Y → length X ≡ length Y
subset-length ends = refl
subset-length (same r) = ap suc (subset-length r)
subset-length (more r) = ap suc (subset-length r)

pub subset-all : (X : Selection) → X ⊆ all (length X)
unfolding all
subset-all [] = ends
subset-all (true ∷ X) = same (subset-all X)
subset-all (false ∷ X) = more (subset-all X)

pub none-subset : (X : Selection) → none (length X) ⊆ X
unfolding none
none-subset [] = ends
none-subset (true ∷ X) = more (none-subset X)
none-subset (false ∷ X) = same (none-subset X)

pub none_subset_all : (n : ℕ) → none n ⊆ all n
unfolding none all
none_subset_all zero = ends
none_subset_all (suc n) = more (none_subset_all n)

pub kept_none : (n : ℕ) (S : Selection) → kept (none n ++ S) ≡ kept S
unfolding none kept
kept_none zero S = refl
kept_none (suc n) S = kept_none n S

pub kept_and_dropped : (X : Selection) → kept X + dropped X ≡ length X
unfolding kept dropped
kept_and_dropped [] = refl
kept_and_dropped (true ∷ X) = omega (arith, kept_and_dropped X)
kept_and_dropped (false ∷ X) = omega (arith, kept_and_dropped X)

pub dropped-append : (P Q : Selection) → dropped (P ++ Q) ≡ dropped P + dropped Q
unfolding dropped
dropped-append [] Q = omega arith
dropped-append (true ∷ P) Q = dropped-append P Q
dropped-append (false ∷ P) Q = omega (arith, dropped-append P Q)

pub dropped-all : (n : ℕ) → dropped (all n) ≡ 0
unfolding all dropped
dropped-all zero = refl
dropped-all (suc n) = dropped-all n

-- so many of one value have it at every place, and past the end too where it is the default
one_value : (b : Bool) (n k : ℕ) → get_or (replicate n b) k b ≡ b
one_value b zero k = refl
one_value b (suc n) zero = refl
one_value b (suc n) (suc k) = one_value b n k

-- none has no request at any place, and all leave none out
pub get_or-none : (n k : ℕ) → get_or (none n) k false ≡ false
unfolding none
get_or-none n k = one_value false n k

pub get_or-all : (n k : ℕ) → get_or (all n) k true ≡ true
unfolding all
get_or-all n k = one_value true n k

-- a place where a selection has another value than the one for places past its end lies in it
pub in_selection : (X : Selection) (k : ℕ) (past : Bool) → get_or X k past ≡ not past → k < length X
in_selection [] k true e = cc
in_selection [] k false e = cc
in_selection (b ∷ X) zero past e = omega arith
in_selection (b ∷ X) (suc k) past e = omega (arith, in_selection X k past e)

-- a selection names as many requests as it keeps
pub length_named : (order : List ℕ) (X : Selection) → length X ≡ length order → length (named order X) ≡ kept X
unfolding named kept
length_named [] [] e = refl
length_named [] (b ∷ X) e = absurd (omega arith)
length_named (request ∷ order) [] e = absurd (omega arith)
length_named (request ∷ order) (true ∷ X) e = ap suc (length_named order X (omega arith))
length_named (request ∷ order) (false ∷ X) e = length_named order X (omega arith)
