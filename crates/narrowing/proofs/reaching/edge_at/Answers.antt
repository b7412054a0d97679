use Rattle.narrowing.proofs.ReachLemmas.{edge_found}
use Rattle.narrowing.proofs.reaching.edge_at.Goals as goal

pub returns : goal.returns
returns c = edge_found c.args.polygon.now c.args.i c.edge.result c.edge.ensures
