-- How far from 0 numbers are.
use Rattle.std.specs.Prelude.{unsigned_abs, ℤ, ◌*◌, ◌≤◌}
use Rattle.fixed_point.specs.declared.number.TheConstants.{FIX_LIMIT, READ_LIMIT, SLOPE_LIMIT}

-- a slope may be the number
abbrev pub IsSlope : ℤ → Type 0
IsSlope n = unsigned_abs n ≤ SLOPE_LIMIT

-- the number may be the difference of two slopes
abbrev pub IsSlopeDifference : ℤ → Type 0
IsSlopeDifference n = unsigned_abs n ≤ 2 * SLOPE_LIMIT

-- so many thousandths are a fixed-point number
abbrev pub IsFix : ℤ → Type 0
IsFix n = unsigned_abs n ≤ FIX_LIMIT

-- the number may be the difference of two fixed-point numbers
abbrev pub IsFixDifference : ℤ → Type 0
IsFixDifference n = unsigned_abs n ≤ 2 * FIX_LIMIT

-- a number that is read may be this one
abbrev pub IsReadable : ℤ → Type 0
IsReadable n = unsigned_abs n ≤ READ_LIMIT
