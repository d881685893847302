-- The sizes of signed numbers.
use Rattle.std.proofs.Common.{ℕ, ◌+◌, ◌*◌, ◌^◌, ◌<◌, ◌≤◌, ℤ, ◌+ℤ◌, ◌*ℤ◌, unsigned_abs, arith}
use Rattle.std.proofs.lemmas.Int.{ints, unsigned_abs-mul, fits_signed_from_abs}
use Rattle.std.proofs.Math.Nat.{mul-le-mul}
use mir.Syntax.{w128}
use mir.Val.{SFits}
use Rattle.lucy_model.specs.Numbers.{IsWithin}

unsigned_abs-add : (a b : ℤ) → unsigned_abs (a +ℤ b) ≤ unsigned_abs a + unsigned_abs b
unsigned_abs-add a b = grind (arith, ints)

pub IsWithin-add : (m n : ℕ) (a b : ℤ) → IsWithin m a → IsWithin n b → IsWithin (m + n) (a +ℤ b)
IsWithin-add m n a b p q = record { size = omega (arith, unsigned_abs-add a b, p.size, q.size) }

pub IsWithin-mul : (m n : ℕ) (a b : ℤ) → IsWithin m a → IsWithin n b → IsWithin (m * n) (a *ℤ b)
IsWithin-mul m n a b p q = record { size = rw unsigned_abs-mul (mul-le-mul p.size q.size) }

pub IsWithin-le : (m n : ℕ) (a : ℤ) → IsWithin m a → m ≤ n → IsWithin n a
IsWithin-le m n a p h = record { size = omega (arith, p.size) }

pub fits_within : (n : ℕ) (a : ℤ) → IsWithin n a → n < 2 ^ 127 → SFits w128 a
fits_within n a p h = fits_signed_from_abs w128 a (omega (arith, p.size))
