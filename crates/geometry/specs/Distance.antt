-- How a distance compares with a constant, told from the square of the distance: nothing is rooted.
use Rattle.std.specs.Prelude.{ℤ, pos, Bool, int_le, if◌then◌else◌}
use Rattle.case_table.specs.Comparison.{compares, sign_holds}
use Rattle.case_table.specs.declared.compare.Op.{Op}
use Rattle.geometry.specs.Plane.{square}

-- Whether the distance whose square is d2 compares with c as `op` says. Two numbers that are not negative compare as their
-- squares do; a negative constant is below each distance.
abbrev pub distance_compares : Op → ℤ → ℤ → Bool
distance_compares op c d2 = if int_le (pos 0) c then compares op d2 (square c) else sign_holds op (pos 1)
