-- For the crates above: functions that are convex, whose laws they prove by these.
use Rattle.std.proofs.Common.{ℕ, ◌+◌, ℤ, arith}
use Rattle.exact.proofs.Ring.{Parts, part, number, sum, product, at_most}
use Rattle.convex.specs.Bends.{Bends}
use Rattle.convex.specs.Parabola.{parabola}

abbrev parts : (a : ℕ) (b c : ℤ) (k : ℕ) → Parts (parabola a b c k)
parts a b c k = sum (sum (product (number a) (product (number k) (number k))) (product (part b) (number k))) (part c)

pub parabola_bends : (a : ℕ) (b c : ℤ) → Bends (parabola a b c)
parabola_bends a b c k =
    at_most (sum (parts a b c (k + 1)) (parts a b c (k + 1))) (sum (parts a b c k) (parts a b c (k + 2))) (omega arith)
