use Rattle.std.proofs.Common.{arith}
use Rattle.polygon.proofs.NamedLemmas.{region_removed}
use Rattle.polygon.proofs.named.Regions.remove_last.Goals as goal

pub returns : goal.returns
returns c =
    region_removed c.self.inside.polygons.entries _ c.args.self.now _ c.self.view_is c.truncate.ensures.entries (omega (arith, c.len.ensures.len))
