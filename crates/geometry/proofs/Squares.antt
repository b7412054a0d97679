-- For this crate and for the crates above: no square is negative.
use Rattle.std.proofs.Common.{◌≡◌, ℤ, pos, negsuc, unsigned_abs, refl, ◌*ℤ◌}

pub square_is : (x : ℤ) → pos (unsigned_abs (x *ℤ x)) ≡ x *ℤ x
square_is (pos n) = refl
square_is (negsuc n) = refl
