-- What is asked of places and distances that may be off.
use Rattle.std.specs.Prelude.{ℕ, ℤ, pos, ◌-ℤ◌, neg_ℤ, int_le, Bool, true, false, not, ◌&&◌, List}
use Rattle.case_table.specs.declared.compare.Op.{Op}
use Rattle.case_table.specs.declared.compare.Op.TheVariants.{Lt, Le, Eq, Ne, Ge, Gt}
use Rattle.fixed_point.specs.declared.number.Point.{Point}
use Rattle.geometry.specs.Region.{Region}
use Rattle.worlds.specs.Apart.{farthest_square, nearest_square, possibly_compares, surely_compares}
use Rattle.worlds.specs.Blurred.{is_in_region_by}
use Rattle.worlds.specs.Inside.{is_possibly_inside, is_surely_inside}

-- what surely holds of numbers between two, or else what possibly does
abbrev pub comparison : Bool → Op → ℤ → ℤ → ℤ → Bool
comparison true = surely_compares
comparison false = possibly_compares

-- the square by which a distance is told to be small; that by which it is told to be large is the other one
abbrev pub square_if_small : Bool → ℕ → Point → Point → ℤ
square_if_small true = farthest_square
square_if_small false = nearest_square

-- the comparison with x of a number that is small by the first and large by the second: each is asked whether it is at most
-- x, or at most one less
abbrev pub compares_by : Op → ℤ → ℤ → ℤ → Bool
compares_by Lt small large x = int_le small (x -ℤ pos 1)
compares_by Le small large x = int_le small x
compares_by Eq small large x = int_le small x && not (int_le large (x -ℤ pos 1))
compares_by Ne small large x = not (int_le large x && not (int_le small (x -ℤ pos 1)))
compares_by Ge small large x = not (int_le large (x -ℤ pos 1))
compares_by Gt small large x = not (int_le large x)

-- whether a place that may be off by an error is in a polygon
abbrev pub inside_by : Bool → ℕ → List Point → Point → Bool
inside_by true = is_surely_inside
inside_by false = is_possibly_inside

-- by how much it has to be inside: by less than none where it has to be possible alone
abbrev pub margin_of : Bool → ℕ → ℤ
margin_of true error = pos error
margin_of false error = neg_ℤ (pos error)

-- by how much positions may be off where this is told
abbrev pub slack_of : Bool → ℕ → ℕ
slack_of true error = 0
slack_of false error = error

-- whether it is in the region of a number, or isn't
abbrev pub is_on_side : Bool → Bool → ℕ → List Region → ℕ → Point → Bool
is_on_side true sure error regions n p = is_in_region_by (inside_by sure error) regions n p
is_on_side false sure error regions n p = not (is_in_region_by (inside_by (not sure) error) regions n p)
