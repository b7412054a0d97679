-- Closed convex polygons, given by their points in order.
use Rattle.std.specs.Prelude.{Bool, not, ◌&&◌, ◌||◌, List, [], ◌∷◌, reverse, if◌then◌else◌}
use Rattle.std.specs.List.{list_any, list_all}
use Rattle.std.specs.Ordering.{int_eq}
use Rattle.fixed_point.specs.declared.number.Point.{Point}
use Rattle.geometry.specs.Plane.{is_left_of, is_right_of}

-- an edge from each point to the next, and from the last one to `first`
abbrev pub edges_back_to : Point → List Point → List (Point × Point)
edges_back_to first [] = []
edges_back_to first (p ∷ []) = (p, first) ∷ []
edges_back_to first (p ∷ q ∷ rest) = (p, q) ∷ edges_back_to first (q ∷ rest)

-- an edge from each point to the next, and from the last one to the first
abbrev pub edges : List Point → List (Point × Point)
edges [] = []
edges (p ∷ rest) = edges_back_to p (p ∷ rest)

abbrev pub are_one : Point → Point → Bool
are_one p q = int_eq p.x q.x && int_eq p.y q.y

-- no edge has the point strictly on its right
abbrev pub is_inside_edges : List (Point × Point) → Point → Bool
is_inside_edges sides p = list_all (λ e. not (is_right_of e p)) sides

-- the two ends of each edge differ, no edge has a vertex strictly on its right, and some edge has a vertex strictly on its left
abbrev pub is_counterclockwise : List Point → Bool
is_counterclockwise points =
    list_all (λ e. not (are_one e.0 e.1)) (edges points)
    && list_all (is_inside_edges (edges points)) points
    && list_any (λ e. list_any (is_left_of e) points) (edges points)

-- the points bound a convex polygon, in one direction or the other
abbrev pub is_convex : List Point → Bool
is_convex points = is_counterclockwise points || is_counterclockwise (reverse points)

-- the same points in the direction that is counterclockwise
abbrev pub counterclockwise_points : List Point → List Point
counterclockwise_points points = if is_counterclockwise points then points else reverse points

-- the point is inside the polygon or on its boundary
abbrev pub is_inside : List Point → Point → Bool
is_inside points p = is_inside_edges (edges (counterclockwise_points points)) p
