-- For crates above: units keep the order and the bounds of numbers, and what is within a patch is met by an area that has it.
use Rattle.std.proofs.Common.{◌≡◌, ℤ, ◌≤ℤ◌, true, arith}
use Rattle.std.proofs.lemmas.Grind.{common_steps}
use Rattle.std.proofs.lemmas.Int.{ints}
use Rattle.places.specs.declared.patch.Extent.{Extent}
use Rattle.places.specs.Patches.{greatest_unit, least_unit, overlap, unit}

pub unit_rises : (a b : ℤ) → a ≤ℤ b → unit a ≤ℤ unit b
unit_rises a b h = grind (arith, common_steps)

pub unit_above : (a : ℤ) → least_unit ≤ℤ unit a
unit_above a = grind (arith, ints)

pub unit_below : (a : ℤ) → unit a ≤ℤ greatest_unit
unit_below a = grind (arith, ints)

-- two extents that share a unit overlap
pub share : (a b : Extent) (n : ℤ) → a.least ≤ℤ n → n ≤ℤ a.greatest → b.least ≤ℤ n → n ≤ℤ b.greatest → overlap a b ≡ true
share a b n h1 h2 h3 h4 = grind (arith, ints)
