use Rattle.narrowing.proofs.AreaLemmas.{covers_any}
use Rattle.narrowing.proofs.atom_area.area_of.Goals as goal

pub returns-in-Compare : goal.returns-in-Compare
returns-in-Compare c =
    covers_any c.args.error c.args.regions.now c.args.var c.args.a.now _ c.in-Compare.is c.area_of_comparison.result c.area_of_comparison.ensures
