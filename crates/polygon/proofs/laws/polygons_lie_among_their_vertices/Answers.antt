use Rattle.polygon.proofs.AmongLemmas.{convex_among}
use Rattle.polygon.proofs.laws.polygons_lie_among_their_vertices.Goals as goal

pub returns : goal.returns
returns c = convex_among
