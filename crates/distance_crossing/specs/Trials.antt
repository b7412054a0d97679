-- Three motions and a circle that may hold their positions.
use Rattle.std.specs.Prelude.{ℕ, ℤ, Bool}
use Rattle.geometry.specs.Circle.{three_fit}
use Rattle.linear_crossing.specs.Moving.{position_after}
use Rattle.distance_crossing.specs.Close.{ArePositionsClose}
use Rattle.distance_crossing.specs.LeastCircle.{least_over, least_under}
use Rattle.distance_crossing.specs.declared.trial.Trial.{Trial}

-- the positions fit the circle k ticks after the window's first
abbrev pub fit_at : Trial → ℕ → Bool
fit_at m k = three_fit m.r (position_after m.p k) (position_after m.q k) (position_after m.s k)

-- no two positions are further apart than the diameter
abbrev pub IsClose : Trial → ℕ → Type 0
IsClose m k = ArePositionsClose m.r m.p m.q m.s k

-- the square of the diameter of the least circle round the positions, as a fraction
abbrev pub over_at : Trial → ℕ → ℤ
over_at m k = least_over (position_after m.p k) (position_after m.q k) (position_after m.s k)

abbrev pub under_at : Trial → ℕ → ℤ
under_at m k = least_under (position_after m.p k) (position_after m.q k) (position_after m.s k)
