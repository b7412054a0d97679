-- The least and the greatest coordinates of points.
use Rattle.std.specs.Prelude.{◌≡◌, true, Bool, ◌&&◌, List, Contains, map, int_le}
use Rattle.std.specs.List.{list_all}
use Rattle.fixed_point.specs.declared.number.Point.{Point}

-- neither coordinate of the point is below that of the first, nor above that of the second
abbrev pub is_in_box : Point → Point → Point → Bool
is_in_box least greatest p = int_le least.x p.x && int_le p.x greatest.x && int_le least.y p.y && int_le p.y greatest.y

-- each point is among the two, and each of their coordinates is one of some point
pub record AreBounds (points : List Point) (least greatest : Point) : Type 0 where
  pub among : list_all (is_in_box least greatest) points ≡ true
  pub least_x : Contains (map (λ p. p.x) points) least.x
  pub least_y : Contains (map (λ p. p.y) points) least.y
  pub greatest_x : Contains (map (λ p. p.x) points) greatest.x
  pub greatest_y : Contains (map (λ p. p.y) points) greatest.y
