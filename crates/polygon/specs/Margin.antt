-- The ticks at which a moving point is in a polygon by a margin that rises from tick to tick.
use Rattle.std.specs.Prelude.{ℕ, ◌-◌, ℤ, pos, ◌+ℤ◌, ◌*ℤ◌, Bool, ◌&&◌, List}
use Rattle.fixed_point.specs.declared.number.Point.{Point}
use Rattle.geometry.specs.Margin.{is_inside_by}
use Rattle.tick_set.specs.Ticks.{within}
use Rattle.tick_set.specs.declared.spans.Window.{Window}
use Rattle.linear_crossing.specs.declared.quad.Line.{Line}
use Rattle.linear_crossing.specs.Moving.{position_after}
use Rattle.polygon.specs.declared.margin.Margin.{Margin}

-- the margin k ticks after the window's first
abbrev pub margin_after : Margin → ℕ → ℤ
margin_after m k = m.first +ℤ m.rise *ℤ pos k

-- the tick t is in the window, and the moving point is in the polygon of these points by the margin there
abbrev pub is_inside_by_at : List Point → Line → Margin → Window → ℕ → Bool
is_inside_by_at points l m w t = within w.lo w.hi t && is_inside_by (margin_after m (t - w.lo)) points (position_after l (t - w.lo))
