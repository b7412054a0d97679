-- Points that fit a circle of radius r. Each rule is that of the smallest circle round the points; of four points each three must fit (Helly's theorem in the plane).
use Rattle.std.specs.Prelude.{ℤ, pos, ◌+ℤ◌, ◌-ℤ◌, ◌*ℤ◌, Bool, true, false, ◌&&◌, List, [], ◌∷◌, int_le, if◌then◌else◌, ◌≤ℤ◌}
use Rattle.std.specs.Int.{int_max}
use Rattle.fixed_point.specs.declared.number.Point.{Point}
use Rattle.geometry.specs.Plane.{square, squared_distance, cross}
use Rattle.geometry.specs.declared.limits.TheConstants.{RADIUS_LIMIT}

-- the square of the diameter
abbrev pub squared_width : ℤ → ℤ
squared_width r = pos 4 *ℤ square r

abbrev pub two_fit : ℤ → Point → Point → Bool
two_fit r p q = int_le (squared_distance p q) (squared_width r)

abbrev pub largest : ℤ → ℤ → ℤ → ℤ
largest a b c = int_max a (int_max b c)

-- The largest of the squared sides is at least the sum of the two others: the triangle has an angle of 90 degrees or more, or its corners are on a line.
abbrev pub is_wide : ℤ → ℤ → ℤ → Bool
is_wide a b c = int_le (a +ℤ b +ℤ c -ℤ largest a b c) (largest a b c)

-- A wide triangle fits where its largest side does. Any other fits where the circle through its corners does: the square of that radius is a b c / (4 cross²).
abbrev pub sides_fit : ℤ → ℤ → ℤ → ℤ → ℤ → Bool
sides_fit r a b c area =
    if is_wide a b c then int_le (largest a b c) (squared_width r)
    else int_le (a *ℤ b *ℤ c) (squared_width r *ℤ square area)

abbrev pub three_fit : ℤ → Point → Point → Point → Bool
three_fit r p q s = sides_fit r (squared_distance p q) (squared_distance q s) (squared_distance s p) (cross p q s)

-- up to four points fit a circle of radius r; without points there is nothing to fit, and more than four are not judged to
abbrev pub fits : ℤ → List Point → Bool
fits r [] = true
fits r (p ∷ []) = true
fits r (p ∷ q ∷ []) = two_fit r p q
fits r (p ∷ q ∷ s ∷ []) = three_fit r p q s
fits r (p ∷ q ∷ s ∷ u ∷ []) = three_fit r p q s && three_fit r p q u && three_fit r p s u && three_fit r q s u
fits r (_ ∷ _ ∷ _ ∷ _ ∷ _ ∷ _) = false

-- a circle may have the radius
pub record IsRadius (r : ℤ) : Type 0 where
  pub least : pos 0 ≤ℤ r
  pub most : r ≤ℤ pos RADIUS_LIMIT
