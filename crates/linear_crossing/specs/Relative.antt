-- The motion of one point as another sees it, and the square of how far away it is.
use Rattle.std.specs.Prelude.{ℕ, ℤ, pos, ◌+ℤ◌, ◌*ℤ◌}
use Rattle.geometry.specs.Plane.{square}

pub record Relative : Type 0 where
  pub x : ℤ
  pub y : ℤ
  pub dx : ℤ
  pub dy : ℤ

-- the squared distance k ticks after the first
abbrev pub squared_distance_at : Relative → ℕ → ℤ
squared_distance_at m k = square (m.x +ℤ m.dx *ℤ pos k) +ℤ square (m.y +ℤ m.dy *ℤ pos k)
