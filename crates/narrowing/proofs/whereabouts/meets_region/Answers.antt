use Rattle.std.proofs.Common.{sym}
use Rattle.narrowing.proofs.WhereaboutsLemmas.{region_apart}
use Rattle.narrowing.proofs.whereabouts.meets_region.Goals as goal

pub returns-in-Some : goal.returns-in-Some
returns-in-Some c never =
    region_apart c.args.regions.now c.args.n c.in-Some.polygon.now c.args.area.now (sym c.in-Some.ensures) (c.meets_polygon.ensures never)
