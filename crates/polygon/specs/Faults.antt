-- Which points a polygon can have, and why others are refused.
use Rattle.std.specs.Prelude.{◌≡◌, ◌<◌, ◌≤◌, true, false, List, length}
use Rattle.fixed_point.specs.declared.number.Point.{Point}
use Rattle.geometry.specs.Polygon.{is_convex}
use Rattle.geometry.specs.declared.limits.TheConstants.{LEAST_VERTICES, VERTEX_LIMIT}
use Rattle.polygon.specs.declared.fault.PolygonFault.{PolygonFault}
use Rattle.polygon.specs.declared.fault.PolygonFault.TheVariants.{TooFew, TooMany, NotConvex, NoMemory}

-- the points bound a convex polygon, and are neither too few nor too many
pub record IsPolygon (points : List Point) : Type 0 where
  pub enough : LEAST_VERTICES ≤ length points
  pub few : length points ≤ VERTEX_LIMIT
  pub convex : is_convex points ≡ true

-- the first of the conditions that holds; want of memory is told only where none does
abbrev pub RefusesPolygon : List Point → PolygonFault → Type 0
RefusesPolygon points TooFew = length points < LEAST_VERTICES
RefusesPolygon points TooMany = VERTEX_LIMIT < length points
RefusesPolygon points NotConvex = (LEAST_VERTICES ≤ length points) × (length points ≤ VERTEX_LIMIT) × (is_convex points ≡ false)
RefusesPolygon points NoMemory = IsPolygon points
