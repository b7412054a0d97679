-- Sides and polygons with a margin: how far along each axis a place may be off, or has to be further in.
use Rattle.std.specs.Prelude.{ℕ, ◌+◌, ℤ, pos, ◌+ℤ◌, ◌-ℤ◌, ◌*ℤ◌, unsigned_abs, Bool, List, [], ◌∷◌, int_le}
use Rattle.std.specs.List.{list_all}
use Rattle.fixed_point.specs.declared.number.Point.{Point}
use Rattle.geometry.specs.Plane.{point, cross}
use Rattle.geometry.specs.Polygon.{counterclockwise_points, edges}

-- the lengths of an edge along the two axes, together: where a place is off by m along both, its cross product with the edge is off by at most m times this
abbrev pub extent : Point × Point → ℕ
extent e = unsigned_abs (e.1.x -ℤ e.0.x) + unsigned_abs (e.1.y -ℤ e.0.y)

-- All places that are at most m away along each axis are on the left of the edge, or on it; with a margin of -m, one of them is.
abbrev pub is_left_by : ℤ → Point × Point → Point → Bool
is_left_by m e p = int_le (m *ℤ pos (extent e)) (cross e.0 e.1 p)

abbrev pub is_within_by : ℤ → List (Point × Point) → Point → Bool
is_within_by m sides p = list_all (λ e. is_left_by m e p) sides

-- the point is on the left of each edge of the polygon, or on it, by the margin
abbrev pub is_inside_by : ℤ → List Point → Point → Bool
is_inside_by m points p = is_within_by m (edges (counterclockwise_points points)) p

-- the corners of the box of all places that are at most m away along each axis
abbrev pub corners : ℕ → Point → List Point
corners m p =
    point (p.x -ℤ pos m) (p.y -ℤ pos m) ∷ point (p.x +ℤ pos m) (p.y -ℤ pos m)
    ∷ point (p.x +ℤ pos m) (p.y +ℤ pos m) ∷ point (p.x -ℤ pos m) (p.y +ℤ pos m) ∷ []
