-- Where objects are throughout a window, and whether that keeps them apart.
use Rattle.std.specs.Prelude.{ℕ, ◌≤◌, ℤ, neg_ℤ, ◌<ℤ◌, ◌⊎◌}
use Rattle.fixed_point.specs.declared.number.Point.{Point}
use Rattle.geometry.specs.Plane.{point}
use Rattle.motion.specs.Dynamic.{value_at}
use Rattle.atoms.specs.declared.routes.Route.{Route}

-- both coordinates were updated by tick t
abbrev pub IsUpdated : Route → ℕ → Type 0
IsUpdated route t = (route.x.now.updatetime ≤ t) × (route.y.now.updatetime ≤ t)

abbrev pub place_along : Route → ℕ → Point
place_along route t = point (value_at route.x.now t) (value_at route.y.now t)

-- further from 0 than c, on one side or the other
abbrev pub IsPast : ℤ → ℤ → Type 0
IsPast c v = (c <ℤ v) ⊎ (v <ℤ neg_ℤ c)
