-- The ticks of a window at which moving points are near each other.
use Rattle.std.specs.Prelude.{ℕ, ◌-◌, ℤ, Bool, true, ◌&&◌, int_le, List, [], ◌∷◌, map, ◌≤◌, length, All}
use Rattle.std.specs.List.{list_all}
use Rattle.case_table.specs.declared.compare.Op.{Op}
use Rattle.fixed_point.specs.declared.number.Point.{Point}
use Rattle.geometry.specs.Circle.{fits, squared_width}
use Rattle.geometry.specs.Distance.{distance_compares}
use Rattle.linear_crossing.specs.Moving.{position_after, distance_after, IsInReach}
use Rattle.linear_crossing.specs.Relative.{Relative, squared_distance_at}
use Rattle.linear_crossing.specs.declared.quad.Line.{Line}
use Rattle.tick_set.specs.Ticks.{within}
use Rattle.tick_set.specs.declared.spans.Window.{Window}

-- the tick t is in the window, and the squared distance there is at most `limit`
abbrev pub is_near_at : Relative → ℤ → Window → ℕ → Bool
is_near_at m limit w t = within w.lo w.hi t && int_le (squared_distance_at m (t - w.lo)) limit

-- the tick t is in the window, and the distance there compares with c as `op` says
abbrev pub distance_holds_at : Relative → Op → ℤ → Window → ℕ → Bool
distance_holds_at m op c w t = within w.lo w.hi t && distance_compares op c (squared_distance_at m (t - w.lo))

-- the tick t is in the window, and the distance of the two motions there compares with c as `op` says
abbrev pub motions_compare : Line → Line → Op → ℤ → Window → ℕ → Bool
motions_compare p q op c w t = within w.lo w.hi t && distance_compares op c (distance_after p q (t - w.lo))

-- the tick t is in the window, and the two motions are within the diameter of a circle of radius r there
abbrev pub are_near : ℤ → Line → Line → Window → ℕ → Bool
are_near r p q w t = within w.lo w.hi t && int_le (distance_after p q (t - w.lo)) (squared_width r)

-- the positions of all motions, k ticks after the window's first
abbrev pub positions_after : List Line → ℕ → List Point
positions_after lines k = map (λ l. position_after l k) lines

-- the tick t is in the window, and the positions there fit a circle of radius r
abbrev pub are_together : ℤ → List Line → Window → ℕ → Bool
are_together r lines w t = within w.lo w.hi t && fits r (positions_after lines (t - w.lo))

-- each of the other motions is within the diameter of the first one, k ticks after the window's first
abbrev pub all_near : ℤ → Line → List Line → ℕ → Bool
all_near r p others k = list_all (λ q. int_le (distance_after p q k) (squared_width r)) others

-- each two of the motions are
abbrev pub pairs_near : ℤ → List Line → ℕ → Bool
pairs_near r [] k = true
pairs_near r (p ∷ later) k = all_near r p later k && pairs_near r later k

-- as many motions as a circle may have, which begin where stored motions can be
pub record AreLinesInReach (lines : List Line) : Type 0 where
  pub count : length lines ≤ 4
  pub in_reach : All IsInReach lines
