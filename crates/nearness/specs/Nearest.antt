-- The objects of a class that are among the k nearest to an object, and when.
use Rattle.std.specs.Prelude.{ℕ, ℤ, int_lt, ◌==◌, nat_lt, Bool, false, not, ◌&&◌, ◌||◌, Option, Some, is_some, option_map, option_and_then, List, [], ◌∷◌, map, count_by, slice_index}
use Rattle.std.specs.List.{filter}
use Rattle.std.specs.Ordering.{int_eq}
use Rattle.fixed_point.specs.declared.number.Point.{Point}
use Rattle.geometry.specs.Plane.{squared_distance}
use Rattle.history.specs.Catalog.{ids_of}
use Rattle.history.specs.History.{History, cells_at}
use Rattle.meaning.specs.Answer.{Row, rows_where}
use Rattle.meaning.specs.Atom.{position_in}

-- where the object of a number is at a tick, None where it is absent, or doesn't move
abbrev pub object_place : History → ℕ → ℕ → Option Point
object_place h t id = position_in t (cells_at h id t)

-- the square of the distance of two points, None where one of them isn't there
abbrev pub squared_between : Option Point → Option Point → Option ℤ
squared_between from to = option_and_then (λ p. option_map (squared_distance p) to) from

-- the square of the distance of an object from the object `to` at a tick, None where one of the two has no place
abbrev pub squared_to : History → ℕ → ℕ → ℕ → Option ℤ
squared_to h to t id = squared_between (object_place h t to) (object_place h t id)

-- Whether an object p stands before an object o, by the squares of their distances: it is nearer, or as near and was
-- inserted first. One that isn't there stands before none, and none before it.
abbrev pub stands_before : Option ℤ → ℕ → Option ℤ → ℕ → Bool
stands_before (Some d) p (Some e) o = int_lt d e || (int_eq d e && nat_lt p o)
stands_before _ p _ o = false

-- how many of these objects stand before o, where `far` has the square of the distance of each
abbrev pub rank : (ℕ → Option ℤ) → List ℕ → ℕ → ℕ
rank far ids o = count_by (λ p. stands_before (far p) p (far o) o) ids

-- the objects of a class, but for the object `to`
abbrev pub others_of : History → ℕ → ℕ → List ℕ
others_of h class to = filter (λ id. not (id == to)) (ids_of h.catalog class)

-- whether o is there, with fewer than k of these objects before it
abbrev pub is_near : (ℕ → Option ℤ) → List ℕ → ℕ → ℕ → Bool
is_near far ids k o = is_some (far o) && nat_lt (rank far ids o) k

-- the objects of a class, in the order of first insertion, that are among the k nearest to the object `to` at some of the
-- ticks `from` to e, and the runs of these ticks
abbrev pub near : History → ℕ → ℕ → ℕ → ℕ → ℕ → List Row
near h class to k from e =
    rows_where (map (λ id. id ∷ []) (others_of h class to))
    (λ key t. is_near (squared_to h to t) (others_of h class to) k (slice_index key 0)) from e
