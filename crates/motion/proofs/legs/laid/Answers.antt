use Rattle.std.proofs.Common.{◌++◌, drop, length, ap, ◌∙◌}
use Rattle.motion.proofs.Stored.{over_unused}
use Rattle.motion.proofs.legs.laid.Goals as goal

pub returns : goal.returns
returns c =
    ap (λ legs. legs ++ drop (length c.args.firsts.now) c.unused-places.result) c.copy_from_slice.ensures.after
    ∙ over_unused c.args.firsts.now c.unused-places.result c.unused-places.ensures
