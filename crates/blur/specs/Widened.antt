-- Sizes of differences that count as more or as less than they are.
use Rattle.std.specs.Prelude.{ℕ, ◌+◌, ◌-◌, ◌⊎◌, ℤ, ◌≤ℤ◌, pos, ◌+ℤ◌, ◌-ℤ◌, ◌*ℤ◌, unsigned_abs}
use Rattle.fixed_point.specs.declared.number.Point.{Point}
use Rattle.geometry.specs.Plane.{square}

-- the size of a number, with so much more, and then so much less as far as that goes
abbrev pub widened : ℕ → ℕ → ℤ → ℕ
widened more less d = unsigned_abs d + more - less

-- a number lies between two others, or is one of them
abbrev pub IsBetween : ℤ → ℤ → ℤ → Type 0
IsBetween a b x = ((a ≤ℤ x) × (x ≤ℤ b)) ⊎ ((b ≤ℤ x) × (x ≤ℤ a))

-- the square of the distance of two points, where their difference counts so on each axis
abbrev pub widened_square : ℕ → ℕ → Point → Point → ℤ
widened_square more less p q =
    square (pos (widened more less (q.x -ℤ p.x))) +ℤ square (pos (widened more less (q.y -ℤ p.y)))

-- the same of two numbers that change by so much at each tick, so many ticks after the first
abbrev pub squares_after : ℕ → ℕ → ℤ → ℤ → ℤ → ℤ → ℕ → ℤ
squares_after more less x y dx dy k =
    square (pos (widened more less (x +ℤ dx *ℤ pos k))) +ℤ square (pos (widened more less (y +ℤ dy *ℤ pos k)))
