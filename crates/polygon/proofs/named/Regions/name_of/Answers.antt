use Rattle.std.proofs.Common.{sym}
use Rattle.polygon.proofs.NamedLemmas.{own_number}
use Rattle.polygon.proofs.named.Regions.name_of.Goals as goal

pub returns-clause-own : goal.returns-clause-own
returns-clause-own c =
    own_number c.self.inside.polygons.entries c.args.self.now c.args.n c.in_ok-name.name.now _ c.self.view_is c.self.invariant.distinct (sym c.in_ok-name.ensures.entry)
