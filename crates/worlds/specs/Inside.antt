-- Whether a place that may be off by an error along each axis is in a polygon, by the corners of the box of all
-- places where it may be.
use Rattle.std.specs.Prelude.{ℕ, Bool, not, List}
use Rattle.std.specs.List.{list_all, list_any}
use Rattle.fixed_point.specs.declared.number.Point.{Point}
use Rattle.geometry.specs.Margin.{corners}
use Rattle.geometry.specs.Plane.{is_right_of}
use Rattle.geometry.specs.Polygon.{counterclockwise_points, edges, is_inside}

-- all corners are inside
abbrev pub is_surely_inside : ℕ → List Point → Point → Bool
is_surely_inside error points p = list_all (is_inside points) (corners error p)

-- all corners are strictly on the right of an edge
abbrev pub is_surely_right_of : ℕ → Point → Point × Point → Bool
is_surely_right_of error p side = list_all (is_right_of side) (corners error p)

-- No edge has all corners strictly on its right. Beyond a sharp corner of the polygon that may be so where no place of
-- the box is inside.
abbrev pub is_possibly_inside : ℕ → List Point → Point → Bool
is_possibly_inside error points p =
    not (list_any (is_surely_right_of error p) (edges (counterclockwise_points points)))
