-- For this crate and for the crates above: how large a rise may be.
use Rattle.std.proofs.Common.{◌≡◌, ℕ, ℤ, pos, ◌*◌, ◌*ℤ◌, ◌≤◌, unsigned_abs}
use Rattle.std.proofs.lemmas.Int.{unsigned_abs-mul}
use Rattle.std.proofs.Math.Nat.{mul-le-mul_right}

-- a product is at most the bound of its left part times a right part that isn't negative
pub near_product : (r s : ℤ) (t m : ℕ) → r ≡ s *ℤ pos t → unsigned_abs s ≤ m → unsigned_abs r ≤ m * t
near_product r s t m is near = rw (is, unsigned_abs-mul s (pos t)) (mul-le-mul_right t near)
