-- Two motions that are further apart than a distance on one axis, and on one side of each other, at the first and at the last of some ticks.
use Rattle.std.specs.Prelude.{ℕ, ℤ, pos, ◌+ℤ◌, ◌-ℤ◌, ◌*ℤ◌, neg_ℤ, Bool, ◌&&◌, ◌||◌, int_lt}
use Rattle.linear_crossing.specs.declared.quad.Line.{Line}

-- both numbers are above c, or both are below its opposite
abbrev pub are_past : ℤ → ℤ → ℤ → Bool
are_past c a b = (int_lt c a && int_lt c b) || (int_lt a (neg_ℤ c) && int_lt b (neg_ℤ c))

-- so are a number that begins at `start` and changes by `step` at each tick, and the same number `last` ticks later
abbrev pub stays_past : ℤ → ℤ → ℤ → ℕ → Bool
stays_past c start step last = are_past c start (start +ℤ step *ℤ pos last)

-- the difference of the motions on one of the two axes is such a number
abbrev pub pass_by : ℤ → Line → Line → ℕ → Bool
pass_by c p q last =
    stays_past c (q.at.x -ℤ p.at.x) (q.dx -ℤ p.dx) last || stays_past c (q.at.y -ℤ p.at.y) (q.dy -ℤ p.dy) last
