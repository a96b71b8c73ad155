-- The order of whole numbers and their sums.
use Rattle.std.proofs.Common.{◌≡◌, true, ℤ, ◌+ℤ◌, arith}
use Rattle.std.specs.Int.Signed.{le_z}
use Rattle.std.proofs.lemmas.Int.{ints}

pub same_le : (x : ℤ) → le_z x x ≡ true
same_le x = grind (arith, ints)

pub le-le : (x y z : ℤ) → le_z x y ≡ true → le_z y z ≡ true → le_z x z ≡ true
le-le x y z p q = grind (arith, ints)

pub sums-le : (x y u w : ℤ) → le_z x y ≡ true → le_z u w ≡ true → le_z (x +ℤ u) (y +ℤ w) ≡ true
sums-le x y u w p q = grind (arith, ints)
