-- The halving method (document 01, "The two methods and their counts"; document 004, Figure 1), over any way of cutting.
use Rattle.std.specs.Prelude.{Bool, true, false, not, [], ◌∷◌, ◌++◌, ℕ, ◌+◌, ltb}
use Rattle.preference.specs.Selection.{Selection, all, none}
use Rattle.preference.specs.Question.{Question}
use Rattle.preference.specs.Part.{Part, together, entered}
use Rattle.preference.specs.Cut.{Tree, leaf, node, size}

-- Conflict, a part of n requests. The `before` requests in front of it are in the ground, and of those after it the ground has what S keeps.
-- "When a part is entered and its last addition was not empty, the ground is asked first, and if it cannot stand the part gives nothing."
unfoldable pub enter_conflict : Question → (before n : ℕ) (ask : Bool) (S : Selection) (worked : Part) → Part
enter_conflict ok before n ask S worked = entered ask (ok (all before ++ (none n ++ S))) (none n ++ S) worked

-- "Otherwise a part of one gives that request"; a larger one is cut. "First C2 is worked with C1 added to the ground; its result is D2.
-- Then C1 is worked with D2 added instead. The result is both."
unfoldable pub halve_conflict : Question → Tree → (before : ℕ) (ask : Bool) (S : Selection) → Part
halve_conflict ok leaf before ask S = enter_conflict ok before 1 ask S (record { set = true ∷ S; found = 1; asked = 0 })
halve_conflict ok (node c1 c2) before ask S =
    let d2 = halve_conflict ok c2 (before + size c1) true S in
    let d1 = halve_conflict ok c1 before (ltb 0 d2.found) d2.set in
    enter_conflict ok before (size c1 + size c2) ask S (together d2 d1)

-- Relaxation, a part of n requests. P is what was decided of those in front of it, and the `after` requests behind it are not in the ground.
-- "If not, ask; keep it whole if it stands, else work it"; a part that is known to fail "is worked without a question".
unfoldable pub enter_relax : Question → (P : Selection) (n after : ℕ) (ask : Bool) (worked : Part) → Part
enter_relax ok P n after ask worked = entered ask (not (ok (P ++ (all n ++ none after)))) (P ++ all n) worked

-- "A part known not to stand whole: one request is dropped, no question. Otherwise cut as above. Ask the ground with C1; keep all of C1 if it
-- stands, else work C1. Then C2 on what was kept: if C1 was kept whole, C2 is known to fail."
unfoldable pub halve_relax : Question → Tree → (P : Selection) (after : ℕ) (ask : Bool) → Part
halve_relax ok leaf P after ask = enter_relax ok P 1 after ask (record { set = P ++ (false ∷ []); found = 1; asked = 0 })
halve_relax ok (node c1 c2) P after ask =
    let k1 = halve_relax ok c1 P (size c2 + after) true in
    let k2 = halve_relax ok c2 k1.set after (ltb 0 k1.found) in
    enter_relax ok P (size c1 + size c2) after ask (together k1 k2)
