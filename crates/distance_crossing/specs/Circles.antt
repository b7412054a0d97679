-- Circles with a rational centre that hold points.
use Rattle.std.specs.Prelude.{ℤ, pos, ◌+ℤ◌, ◌-ℤ◌, ◌*ℤ◌, ◌≤ℤ◌, ◌<ℤ◌, List, All}
use Rattle.fixed_point.specs.declared.number.Point.{Point}
use Rattle.geometry.specs.Plane.{square}

-- the point is within r of the place (x / z, y / z)
abbrev pub IsWithinRadius : ℤ → ℤ → ℤ → ℤ → Point → Type 0
IsWithinRadius r x y z p = (square (z *ℤ p.x -ℤ x) +ℤ square (z *ℤ p.y -ℤ y)) ≤ℤ (square r *ℤ square z)

-- some circle of radius r holds the points
pub record IsInCircle (r : ℤ) (points : List Point) : Type 0 where
  pub x : ℤ
  pub y : ℤ
  pub z : ℤ
  pub unit : pos 0 <ℤ square z
  pub held : All (IsWithinRadius r x y z) points
