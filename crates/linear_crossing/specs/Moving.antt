-- Points that move along lines, and the distance of two of them.
use Rattle.std.specs.Prelude.{ℕ, ◌≤◌, ℤ, pos, ◌+ℤ◌, ◌*ℤ◌, unsigned_abs, ◌*◌}
use Rattle.fixed_point.specs.declared.number.Point.{Point}
use Rattle.geometry.specs.Plane.{point, squared_distance}
use Rattle.linear_crossing.specs.declared.quad.Line.{Line}
use Rattle.linear_crossing.specs.declared.quad.TheConstants.{COORDINATE_LIMIT}

-- the position k ticks after the window's first
abbrev pub position_after : Line → ℕ → Point
position_after l k = point (l.at.x +ℤ l.dx *ℤ pos k) (l.at.y +ℤ l.dy *ℤ pos k)

-- the squared distance of two motions k ticks after the window's first
abbrev pub distance_after : Line → Line → ℕ → ℤ
distance_after p q k = squared_distance (position_after p k) (position_after q k)

-- the motion begins where a stored motion can be
abbrev pub IsInReach : Line → Type 0
IsInReach l = (unsigned_abs l.at.x ≤ COORDINATE_LIMIT) × (unsigned_abs l.at.y ≤ COORDINATE_LIMIT)

-- the number may be the difference of two coordinates of such positions
abbrev pub IsCoordinateDifference : ℤ → Type 0
IsCoordinateDifference n = unsigned_abs n ≤ 2 * COORDINATE_LIMIT
