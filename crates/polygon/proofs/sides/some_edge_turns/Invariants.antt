use Rattle.std.proofs.Common.{◌≡◌, length}
use Rattle.std.specs.List.{list_any}
use Rattle.geometry.specs.Plane.{is_left_of}
use Rattle.geometry.specs.Polygon.{edges_back_to}
use Rattle.polygon.proofs.sides.some_edge_turns.Given as goal

abbrev pub invariant-loop-start : goal.invariant-loop-start
invariant-loop-start l =
    list_any (λ e. list_any (is_left_of e) l.points) (edges_back_to l.first l.rest) ≡ list_any (λ e. list_any (is_left_of e) l.points) (edges_back_to l.first l.points)

abbrev pub decreases-loop-start : goal.decreases-loop-start
decreases-loop-start l = length l.rest
