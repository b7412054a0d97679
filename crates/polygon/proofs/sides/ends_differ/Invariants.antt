use Rattle.std.proofs.Common.{◌≡◌, not, length}
use Rattle.std.specs.List.{list_all}
use Rattle.geometry.specs.Polygon.{are_one, edges_back_to}
use Rattle.polygon.proofs.sides.ends_differ.Given as goal

abbrev pub invariant-loop-start : goal.invariant-loop-start
invariant-loop-start l =
    list_all (λ e. not (are_one e.0 e.1)) (edges_back_to l.first l.rest) ≡ list_all (λ e. not (are_one e.0 e.1)) (edges_back_to l.first l.points)

abbrev pub decreases-loop-start : goal.decreases-loop-start
decreases-loop-start l = length l.rest
