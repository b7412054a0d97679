-- Points, distances and sides in the plane, in whole thousandths. In these definitions a coordinate is any whole number, so they serve for the places of moving objects too.
use Rattle.std.specs.Prelude.{ℤ, pos, ◌+ℤ◌, ◌-ℤ◌, ◌*ℤ◌, Bool, int_lt}
use Rattle.fixed_point.specs.declared.number.Point.{Point}

abbrev pub point : ℤ → ℤ → Point
point x y = record { x = x; y = y }

abbrev pub square : ℤ → ℤ
square x = x *ℤ x

-- the square of the distance of two points
abbrev pub squared_distance : Point → Point → ℤ
squared_distance p q = square (q.x -ℤ p.x) +ℤ square (q.y -ℤ p.y)

-- the cross product of q - p and r - p: above 0 where r is on the left of the way from p to q, below 0 where it is on the right
abbrev pub cross : Point → Point → Point → ℤ
cross p q r = (q.x -ℤ p.x) *ℤ (r.y -ℤ p.y) -ℤ (q.y -ℤ p.y) *ℤ (r.x -ℤ p.x)

-- an edge goes from its first point to its second; a point is strictly on its right, strictly on its left
abbrev pub is_right_of : Point × Point → Point → Bool
is_right_of e r = int_lt (cross e.0 e.1 r) (pos 0)

abbrev pub is_left_of : Point × Point → Point → Bool
is_left_of e r = int_lt (pos 0) (cross e.0 e.1 r)
