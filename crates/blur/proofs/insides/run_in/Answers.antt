use Rattle.std.proofs.Common.{option_to_list}
use Rattle.blur.proofs.PlaceLemmas.{run_by_margin}
use Rattle.blur.proofs.insides.run_in.Goals as goal

pub returns : goal.returns
returns c =
    run_by_margin c.corners_stand_together.ensures.all c.corners_stand_together.ensures.some c.args.blur.sure c.args.blur.error c.margin.result c.args.polygon.now
    c.args.line.now c.args.w (option_to_list c.inside_ticks_by.result) c.margin.ensures.first c.margin.ensures.rise c.inside_ticks_by.ensures
