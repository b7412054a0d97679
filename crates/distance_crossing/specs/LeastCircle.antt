-- The square of the diameter of the least circle round three points, as a fraction, by the squares of their sides and the cross product of two of them.
use Rattle.std.specs.Prelude.{ℤ, pos, ◌*ℤ◌, if◌then◌else◌}
use Rattle.fixed_point.specs.declared.number.Point.{Point}
use Rattle.geometry.specs.Circle.{is_wide, largest}
use Rattle.geometry.specs.Plane.{square, squared_distance, cross}

-- the largest side is a diameter of a wide triangle, and the circle round any other goes through its corners
abbrev pub over_of : ℤ → ℤ → ℤ → ℤ
over_of a b c = if is_wide a b c then largest a b c else a *ℤ b *ℤ c

abbrev pub under_of : ℤ → ℤ → ℤ → ℤ → ℤ
under_of a b c area = if is_wide a b c then pos 1 else square area

abbrev pub least_over : Point → Point → Point → ℤ
least_over p q s = over_of (squared_distance p q) (squared_distance q s) (squared_distance s p)

abbrev pub least_under : Point → Point → Point → ℤ
least_under p q s = under_of (squared_distance p q) (squared_distance q s) (squared_distance s p) (cross p q s)
