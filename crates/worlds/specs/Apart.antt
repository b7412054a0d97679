-- How far apart two places are at least and at most, where each may be off by an error along each axis.
use Rattle.std.specs.Prelude.{ℕ, ◌+◌, ◌-◌, ◌*◌, ℤ, pos, ◌+ℤ◌, ◌-ℤ◌, unsigned_abs, Bool, not, ◌&&◌, ◌||◌, int_le, int_lt, if◌then◌else◌}
use Rattle.std.specs.Ordering.{int_eq}
use Rattle.case_table.specs.Comparison.{sign_holds}
use Rattle.case_table.specs.declared.compare.Op.{Op}
use Rattle.case_table.specs.declared.compare.Op.TheVariants.{Lt, Le, Eq, Ne, Ge, Gt}
use Rattle.fixed_point.specs.declared.number.Point.{Point}
use Rattle.geometry.specs.Plane.{square}

-- two numbers whose difference is d are so far apart at least, and at most, where each may be off by the error
abbrev pub least_apart : ℕ → ℤ → ℕ
least_apart error d = unsigned_abs d - 2 * error

abbrev pub most_apart : ℕ → ℤ → ℕ
most_apart error d = unsigned_abs d + 2 * error

-- the least and the greatest square of the distance of two places
abbrev pub nearest_square : ℕ → Point → Point → ℤ
nearest_square error p q =
    square (pos (least_apart error (q.x -ℤ p.x))) +ℤ square (pos (least_apart error (q.y -ℤ p.y)))

abbrev pub farthest_square : ℕ → Point → Point → ℤ
farthest_square error p q =
    square (pos (most_apart error (q.x -ℤ p.x))) +ℤ square (pos (most_apart error (q.y -ℤ p.y)))

-- whether each number from low to high compares with x as `op` says
abbrev pub surely_compares : Op → ℤ → ℤ → ℤ → Bool
surely_compares Lt low high x = int_lt high x
surely_compares Le low high x = int_le high x
surely_compares Eq low high x = int_eq low x && int_eq high x
surely_compares Ne low high x = int_lt high x || int_lt x low
surely_compares Ge low high x = int_le x low
surely_compares Gt low high x = int_lt x low

-- whether some number from low to high does
abbrev pub possibly_compares : Op → ℤ → ℤ → ℤ → Bool
possibly_compares Lt low high x = int_lt low x
possibly_compares Le low high x = int_le low x
possibly_compares Eq low high x = int_le low x && int_le x high
possibly_compares Ne low high x = not (int_eq low x && int_eq high x)
possibly_compares Ge low high x = int_le x high
possibly_compares Gt low high x = int_lt x high

-- The same of a distance and c, where the square of the distance is from low to high. A negative c is below each distance.
abbrev pub distance_compares_by : (Op → ℤ → ℤ → ℤ → Bool) → Op → ℤ → ℤ → ℤ → Bool
distance_compares_by test op c low high =
    if int_le (pos 0) c then test op low high (square c) else sign_holds op (pos 1)
