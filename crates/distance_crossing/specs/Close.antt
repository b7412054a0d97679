-- Three motions of which no two are further apart than the diameter of a circle.
use Rattle.std.specs.Prelude.{ℕ, ℤ, ◌≤ℤ◌}
use Rattle.geometry.specs.Circle.{squared_width}
use Rattle.linear_crossing.specs.Moving.{distance_after}
use Rattle.linear_crossing.specs.declared.quad.Line.{Line}

-- k ticks after the window's first
pub record ArePositionsClose (r : ℤ) (p q s : Line) (k : ℕ) : Type 0 where
  pub first : distance_after p q k ≤ℤ squared_width r
  pub second : distance_after q s k ≤ℤ squared_width r
  pub third : distance_after s p k ≤ℤ squared_width r
