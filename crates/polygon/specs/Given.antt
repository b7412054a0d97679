-- How a polygon is kept: its points in the direction that is counterclockwise, whether they were given in the other one,
-- and their bounds.
use Rattle.std.specs.Prelude.{◌≡◌, Bool, List, reverse, if◌then◌else◌}
use Rattle.fixed_point.specs.declared.number.Point.{Point}
use Rattle.geometry.specs.Polygon.{counterclockwise_points}
use Rattle.polygon.specs.Bounds.{AreBounds}
use Rattle.polygon.specs.Faults.{IsPolygon}

-- the points in the order in which they were given
abbrev pub points_as_given : List Point → Bool → List Point
points_as_given points reversed = if reversed then reverse points else points

pub record IsStoredPolygon (points : List Point) (reversed : Bool) : Type 0 where
  pub polygon : IsPolygon (points_as_given points reversed)
  pub counterclockwise : counterclockwise_points (points_as_given points reversed) ≡ points

-- the same with the bounds of the points
pub record IsKeptPolygon (points : List Point) (reversed : Bool) (least greatest : Point) : Type 0 where
  pub stored : IsStoredPolygon points reversed
  pub bounds : AreBounds (points_as_given points reversed) least greatest
