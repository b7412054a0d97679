-- Places that are possibly in a polygon, by a direction.
use Rattle.std.specs.Prelude.{◌≡◌, ℕ, ◌+◌, ℤ, ◌≤ℤ◌, pos, ◌-ℤ◌, ◌*ℤ◌, neg_ℤ, unsigned_abs, true}
use Rattle.fixed_point.specs.declared.number.Point.{Point}
use Rattle.geometry.specs.Margin.{is_left_by}
use Rattle.narrowing.specs.declared.reaching.Direction.{Direction}
use Rattle.narrowing.specs.declared.reaching.Direction.TheVariants.{Right, Up, Left, Down}
use Rattle.narrowing.specs.declared.reaching.Way.{Way}

-- how far a way along the axes goes in a direction
abbrev pub ahead_by : Direction → ℤ → ℤ → ℤ
ahead_by Right x y = x
ahead_by Up x y = y
ahead_by Left x y = neg_ℤ x
ahead_by Down x y = neg_ℤ y

-- how far it goes to the left of the direction
abbrev pub aside_by : Direction → ℤ → ℤ → ℤ
aside_by Right x y = y
aside_by Up x y = neg_ℤ x
aside_by Left x y = neg_ℤ y
aside_by Down x y = x

-- how far it goes along both axes together
abbrev pub length_of : Way → ℕ
length_of way = unsigned_abs way.ahead + unsigned_abs way.aside

-- The way to a place from an end of an edge, by a direction, where the place may be off by an error along each axis: some
-- place where it may be isn't on the right of the edge.
abbrev pub IsBeside : ℕ → Way → ℤ → ℤ → Type 0
IsBeside error way ahead aside =
    (neg_ℤ (pos error) *ℤ pos (length_of way)) ≤ℤ (way.ahead *ℤ aside -ℤ way.aside *ℤ ahead)

-- the places that are so beside two edges reach no further than this in a direction
abbrev pub Reach : ℕ → Direction → Point × Point → Point × Point → ℤ → Type 0
Reach error direction before after most =
    (p : Point) → is_left_by (neg_ℤ (pos error)) before p ≡ true → is_left_by (neg_ℤ (pos error)) after p ≡ true
    → ahead_by direction p.x p.y ≤ℤ most
