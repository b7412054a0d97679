use Rattle.std.proofs.Common.{◌≡◌, length}
use Rattle.geometry.specs.Polygon.{edges_back_to, is_inside_edges}
use Rattle.polygon.proofs.sides.is_within.Given as goal

abbrev pub invariant-loop-start : goal.invariant-loop-start
invariant-loop-start l = is_inside_edges (edges_back_to l.first l.rest) l.p ≡ is_inside_edges (edges_back_to l.first l.points) l.p

abbrev pub decreases-loop-start : goal.decreases-loop-start
decreases-loop-start l = length l.rest
