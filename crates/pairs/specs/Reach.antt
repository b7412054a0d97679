-- How far coordinates reach, and ways that keep within that.
use Rattle.std.specs.Prelude.{ℕ, ℤ, ◌≤ℤ◌}
use Rattle.linear_crossing.specs.Moving.{position_after}
use Rattle.pairs.specs.declared.movers.Way.{Way}
use Rattle.pairs.specs.declared.reach.Reach.{Reach}

abbrev pub IsReached : Reach → ℤ → Type 0
IsReached r m = (r.least ≤ℤ m) × (m ≤ℤ r.greatest)

-- the position k ticks after the window's first is where the way reaches
abbrev pub IsReachedAt : Way → ℕ → Type 0
IsReachedAt way k = IsReached way.x (position_after way.line k).x × IsReached way.y (position_after way.line k).y
