-- Bounds of the square of a distance, by the ticks that have passed.
use Rattle.std.specs.Prelude.{ℕ, ℤ}
use Rattle.blur.specs.Widened.{squares_after}
use Rattle.blur.specs.declared.bounds.SquareBound.{SquareBound}

-- so many ticks after the first
abbrev pub bound_after : SquareBound → ℕ → ℤ
bound_after b k = squares_after b.more b.less b.x b.y b.dx b.dy k
