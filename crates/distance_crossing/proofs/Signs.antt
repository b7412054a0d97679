-- For this crate and for the crates above: signs of sums, products and squares of whole numbers.
use Rattle.std.proofs.Common.{◌≡◌, ℤ, pos, ◌-ℤ◌, ◌*ℤ◌, neg_ℤ, ◌≤ℤ◌, ◌<ℤ◌, arith}
use Rattle.std.proofs.lemmas.Int.{ints, by_lt_z}
use Rattle.exact.proofs.Ring.{part, product, opposite, same}
use Rattle.exact.proofs.Integers.{product_least, product_one_less}
use Rattle.geometry.proofs.Squares.{square_is}
use Rattle.geometry.specs.Plane.{square}

pub product_above : (a b : ℤ) → pos 0 <ℤ a → pos 0 <ℤ b → pos 0 <ℤ (a *ℤ b)
product_above a b p q =
    let rest = product_least (a -ℤ pos 1) (b -ℤ pos 1) (omega (arith, ints)) (omega (arith, ints)) in
    let is = product_one_less a b in
    omega (arith, ints)

pub square_least : (x : ℤ) → pos 0 ≤ℤ square x
square_least x = let whole = square_is x in omega (arith, ints)

opposite_product : (a b : ℤ) → a *ℤ neg_ℤ b ≡ neg_ℤ (a *ℤ b)
opposite_product a b = same (product (part a) (opposite (part b))) (opposite (product (part a) (part b))) (omega arith)

-- a factor above 0 tells nothing of the sign
pub cancel_least : (z t : ℤ) → pos 0 <ℤ z → pos 0 ≤ℤ (z *ℤ t) → pos 0 ≤ℤ t
cancel_least z t p h =
    by_lt_z t (pos 0)
    (λ l. let far = product_above z (neg_ℤ t) p (omega (arith, ints)) in let is = opposite_product z t in absurd (omega (arith, ints)))
    (λ l. l)

pub cancel_above : (z t : ℤ) → pos 0 <ℤ z → pos 0 <ℤ (z *ℤ t) → pos 0 <ℤ t
cancel_above z t p h =
    by_lt_z (pos 0) t (λ l. l)
    (λ l. let far = product_least z (neg_ℤ t) (omega (arith, ints)) (omega (arith, ints)) in let is = opposite_product z t in absurd (omega (arith, ints)))
