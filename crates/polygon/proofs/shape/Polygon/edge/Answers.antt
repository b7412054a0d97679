use Rattle.std.proofs.Common.{◌∙◌}
use Rattle.polygon.proofs.KeptLemmas.{edge_there, edge_missing}
use Rattle.polygon.proofs.shape.Polygon.edge.Goals as goal

pub returns-in_err-start : goal.returns-in_err-start
returns-in_err-start c =
    let found = rw c.deref.ensures.value at c.in_err-start.ensures.lookup in
    c.from_residual.ensures ∙ edge_missing c.self.inside.points.items c.args.self.now c.self.inside.reversed c.args.i c.self.invariant.stored c.self.view_is found.3

pub returns : goal.returns
returns c =
    let found = rw c.deref.ensures.value at c.in_ok-start.ensures.lookup in
    let ends = rw c.deref-2.ensures.value at c.end_of_edge-end.ensures in
    edge_there c.self.inside.points.items c.args.self.now c.self.inside.reversed c.args.i c.index.result.now c.in_ok-start.start.now c.end_of_edge-end.result.now c.self.invariant.stored c.self.view_is found.3.0 found.1 c.index.ensures ends
