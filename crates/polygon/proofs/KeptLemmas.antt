-- What the points that a polygon keeps tell of its edges.
use Rattle.std.proofs.Common.{◌≡◌, ℕ, suc, ◌+◌, ◌-◌, ◌<◌, ◌≤◌, Bool, None, Some, List, [], ◌∷◌, length, take, drop, get_or, slice_get, refl, ap, sym, ◌∙◌, arith, add-one, length-drop}
use Rattle.std.specs.Prelude.{unwrap_or}
use Rattle.std.proofs.lemmas.List.{take_all}
use Rattle.std.proofs.lemmas.Option.{slice_get_past, slice_get_read}
use Rattle.fixed_point.specs.declared.number.Point.{Point}
use Rattle.geometry.specs.Polygon.{edges, counterclockwise_points}
use Rattle.polygon.specs.Given.{points_as_given, IsStoredPolygon}
use Rattle.polygon.proofs.EdgeLemmas.{end_of, edges_from, edge_at, edge_past}

kept_edges : (points whole : List Point) (reversed : Bool) → IsStoredPolygon points reversed → points_as_given points reversed ≡ whole → edges points ≡ edges (counterclockwise_points whole)
kept_edges points whole reversed kept seen = ap edges (sym kept.counterclockwise ∙ ap counterclockwise_points seen)

-- the points after the one at i
points_after : (points : List Point) (i : ℕ) → take (length points - (i + 1)) (drop (i + 1) points) ≡ drop (suc i) points
points_after points i = take_all (length points - (i + 1)) (drop (i + 1) points) (omega (arith, length-drop (i + 1) points)) ∙ ap (λ k. drop k points) (add-one i)

pub edge_there : (points whole : List Point) (reversed : Bool) (i : ℕ) (first start end : Point) → IsStoredPolygon points reversed → points_as_given points reversed ≡ whole → i < length points
    → start ≡ get_or points i start → first ≡ get_or points 0 first → end ≡ unwrap_or (slice_get (take (length points - (i + 1)) (drop (i + 1) points)) 0) first
    → Some (start, end) ≡ slice_get (edges (counterclockwise_points whole)) i
edge_there points whole reversed i first start end kept seen within at_start at_first at_end =
    let begins : slice_get points 0 ≡ Some first = slice_get_read points (length points) 0 first refl (omega arith) at_first in
    let ends : end ≡ end_of first (drop (suc i) points) = at_end ∙ ap (end_of first) (points_after points i) in
    ap (λ q. Some (start, q)) ends
    ∙ sym (edge_at first points i start (slice_get_read points (length points) i start refl within at_start))
    ∙ ap (λ es. slice_get es i) (sym (edges_from points first begins) ∙ kept_edges points whole reversed kept seen)

no_edge : (points : List Point) (i : ℕ) → slice_get points i ≡ None → slice_get (edges points) i ≡ None
no_edge [] i h = refl
no_edge (p ∷ rest) i h = edge_past p (p ∷ rest) i h

pub edge_missing : (points whole : List Point) (reversed : Bool) (i : ℕ) → IsStoredPolygon points reversed → points_as_given points reversed ≡ whole → length points ≤ i → None ≡ slice_get (edges (counterclockwise_points whole)) i
edge_missing points whole reversed i kept seen past =
    sym (no_edge points i (slice_get_past points i past)) ∙ ap (λ es. slice_get es i) (kept_edges points whole reversed kept seen)
