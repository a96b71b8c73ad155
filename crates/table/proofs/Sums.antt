-- The sum of words, carries past 16 bits thrown away.
use Rattle.std.proofs.Common.{◌≡◌, ℕ, ◌+◌, ◌%◌, List, [], ◌∷◌, fold, refl, ap, sym, ◌∙◌, add-zero, zero-add, arith}
use Rattle.std.proofs.Math.Nat.{mod-add-mod}
use Rattle.table.specs.Words.{total}

-- one word moves from the rest to the sum, and the carry is thrown away
pub sum_turn : (sum w next : ℕ) (ws : List ℕ) → next ≡ (sum + w) % 65536 → (next + total ws) % 65536 ≡ (sum + total (w ∷ ws)) % 65536
unfolding total
sum_turn sum w next ws e = rw e (mod-add-mod (sum + w) 65536 (total ws) ∙ ap (λ (n : ℕ). n % 65536) (omega arith))

-- from any sum on
fold_from : (ws : List ℕ) (sum : ℕ) → sum % 65536 ≡ sum → fold (λ a b. (a + b) % 65536) sum ws ≡ (sum + total ws) % 65536
unfolding total
fold_from [] sum h = rw add-zero (sym h)
fold_from (w ∷ ws) sum h = fold_from ws ((sum + w) % 65536) (omega arith) ∙ sum_turn sum w ((sum + w) % 65536) ws refl

pub total_fold : (ws : List ℕ) → total ws % 65536 ≡ fold (λ a b. (a + b) % 65536) 0 ws
total_fold ws = rw (fold_from ws 0 refl, zero-add)
