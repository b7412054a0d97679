-- For this crate and for the crates above: strips rise with values.
use Rattle.std.proofs.Common.{◌≡◌, ℕ, suc, zero, ◌/◌, ◌≤◌, ℤ, pos, negsuc, ◌≤ℤ◌, ◌<ℤ◌, true, arith}
use Rattle.std.proofs.Math.Nat.{div-mul-le_self}
use Rattle.std.proofs.lemmas.Int.{ints}
use Rattle.std.proofs.lemmas.Nat.{le-div}
use Rattle.std.proofs.lemmas.Bool.Decides.{nat_tests}
use Rattle.plane.specs.Boxes.{strip, strips_between, strips_meet, strips_of, Box}

quotient_rises : (a b n : ℕ) → a ≤ b → a / suc n ≤ b / suc n
quotient_rises a b n h = le-div (a / suc n) b (suc n) (omega arith) (omega (arith, h, div-mul-le_self a (suc n)))

pub strip_rises : (width x y : ℤ) → pos 0 <ℤ width → x ≤ℤ y → strip width x ≤ℤ strip width y
strip_rises (pos zero) x y wide h = absurd (grind (arith, ints))
strip_rises (negsuc n) x y wide h = absurd (grind (arith, ints))
strip_rises (pos (suc n)) (pos a) (pos b) wide h = let q = quotient_rises a b n (omega (arith, ints)) in omega (arith, ints)
strip_rises (pos (suc n)) (negsuc a) (pos b) wide h = omega (arith, ints)
strip_rises (pos (suc n)) (negsuc a) (negsuc b) wide h = let q = quotient_rises b a n (omega (arith, ints)) in omega (arith, ints)
strip_rises (pos (suc n)) (pos a) (negsuc b) wide h = absurd (omega (arith, ints))

-- a box with a value between two bounds has a strip between theirs
pub meeting : (width lo hi z : ℤ) (box : Box) → pos 0 <ℤ width → lo ≤ℤ z → z ≤ℤ hi → box.least ≤ℤ z → z ≤ℤ box.greatest →
    strips_meet (strips_between width lo hi) (strips_of width box) ≡ true
meeting width lo hi z box wide above below least greatest =
    let first : strip width lo ≤ℤ strip width box.greatest = strip_rises width lo box.greatest wide (omega (arith, ints)) in
    let last : strip width box.least ≤ℤ strip width hi = strip_rises width box.least hi wide (omega (arith, ints)) in
    grind (arith, ints, nat_tests)
