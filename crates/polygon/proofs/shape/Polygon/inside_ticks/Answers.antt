use Rattle.std.proofs.Common.{option_to_list}
use Rattle.polygon.proofs.TickLemmas.{without_margin}
use Rattle.polygon.proofs.shape.Polygon.inside_ticks.Goals as goal

pub returns : goal.returns
returns c = without_margin c.args.self.now c.args.l.now c.none.result c.args.w (option_to_list c.inside_ticks_by.result) c.none.ensures.first c.none.ensures.rise c.inside_ticks_by.ensures
