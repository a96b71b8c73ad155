-- What a buffer with room for a report has.
use Rattle.std.proofs.Common.{ℕ, ◌+◌, ◌*◌, ◌-◌, ◌≤◌, ◌≡◌, true, List, leb, length, leb-true}
use Rattle.table.proofs.Steps.{both}
use Rattle.promises.specs.Reports.{room_for}

-- where there is room the start lies within the buffer, and the largest report too
pub room_within : (n : ℕ) (buffer : List ℕ) (start : ℕ) → room_for n buffer start ≡ true → start ≤ length buffer
unfolding room_for
room_within n buffer start e = leb-true start (length buffer) (both (leb start (length buffer)) _ e).0

pub room_enough : (n : ℕ) (buffer : List ℕ) (start : ℕ) → room_for n buffer start ≡ true → 12 + 2 * n ≤ length buffer - start
unfolding room_for
room_enough n buffer start e = leb-true (12 + 2 * n) (length buffer - start) (both (leb start (length buffer)) _ e).1
