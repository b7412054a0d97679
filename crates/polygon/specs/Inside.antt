-- The ticks at which a moving point is in a polygon.
use Rattle.std.specs.Prelude.{ℕ, ◌-◌, Bool, ◌&&◌, List}
use Rattle.fixed_point.specs.declared.number.Point.{Point}
use Rattle.geometry.specs.Polygon.{is_inside}
use Rattle.tick_set.specs.Ticks.{within}
use Rattle.tick_set.specs.declared.spans.Window.{Window}
use Rattle.linear_crossing.specs.declared.quad.Line.{Line}
use Rattle.linear_crossing.specs.Moving.{position_after}

-- the tick t is in the window, and the moving point is in the polygon of these points there
abbrev pub is_inside_at : List Point → Line → Window → ℕ → Bool
is_inside_at points l w t = within w.lo w.hi t && is_inside points (position_after l (t - w.lo))
