-- Runs of flags that are set, and what the flags are in the end.
use Rattle.std.proofs.Common.{ℕ, ◌+◌, ◌≤◌, ◌≡◌, refl, sym, ap, ◌∙◌, Bool, true, false, List, ◌++◌, arith}
use Rattle.std.proofs.Common.{take, length-drop, length-take-le, length, drop, set, replicate, drop-drop, take_at, drop_at}
use borrow.Rule.Slice.PartMut.{put_mid}
use Rattle.preference.specs.Selection.{Selection, all, none}
use Rattle.preference.proofs.Selections.{length-all, length_none}
use Rattle.explain.specs.Flags.{filled}

-- a run of the flags that was filled
pub fill_is :
    (value : Bool) (from count count' : ℕ) (X F : List Bool) →
    count' ≡ count →
    from + count ≤ length X →
    F ≡ replicate (length (take count' (drop from X))) value →
    put_mid from count' X F ≡ filled from count value X
unfolding filled
fill_is value from count count' X F g h set =
    let f : F ≡ replicate (length (take count (drop from X))) value = rw g at set in
    let long : length (take count (drop from X)) ≡ count = length-take-le count (drop from X) (simp length-drop (omega arith)) in
    rw (g, f, long, drop-drop count from X) refl

-- what is behind two runs
past : (A B C : List Bool) (a b : ℕ) → length A ≡ a → length B ≡ b → drop (a + b) (A ++ (B ++ C)) ≡ C
past A B C a b e g = sym (drop-drop b a (A ++ (B ++ C))) ∙ ap (drop b) (drop_at A (B ++ C) a e) ∙ drop_at B C b g

-- a run in the middle of a list is replaced
pub fill_part :
    (value : Bool) (A B C X : List Bool) (from count : ℕ) →
    length A ≡ from →
    length B ≡ count →
    X ≡ A ++ (B ++ C) →
    filled from count value X ≡ A ++ (replicate count value ++ C)
unfolding filled
fill_part value A B C X from count a b e = rw (e, take_at A (B ++ C) from a, past A B C from count a b)

-- flags that were all false are made true, and the other way
pub fill_true : (A C X : Selection) (from count : ℕ) → length A ≡ from → X ≡ A ++ (none count ++ C) → filled from count true X ≡ A ++ (all count ++ C)
unfolding all none
fill_true A C X from count a e = fill_part true A (none count) C X from count a (length_none count) e

pub fill_false : (A C X : Selection) (from count : ℕ) → length A ≡ from → X ≡ A ++ (all count ++ C) → filled from count false X ≡ A ++ (none count ++ C)
unfolding all none
fill_false A C X from count a e = fill_part false A (all count) C X from count a (length-all count) e
