use Rattle.std.proofs.Common.{subst}
use Rattle.polygon.specs.Bounds.{AreBounds}
use Rattle.polygon.proofs.shape.Polygon.bounds.Goals as goal

pub returns : goal.returns
returns c =
    subst (λ points. AreBounds points c.self.inside.least c.self.inside.greatest) c.self.view_is c.self.invariant.bounds
