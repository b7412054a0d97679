use Rattle.motion.proofs.Stored.{rest_is_stored}
use Rattle.motion.proofs.legs.Legs.rest.Goals as goal

pub invariant_of-result : goal.invariant_of-result
invariant_of-result c =
    rest_is_stored c.firsts-firsts.result.now c.leg_in_force-ended.result.0 c.leg_in_force-ended.result.1 c.laid_from.result
    (rw c.firsts-firsts.ensures.legs c.firsts-firsts.ensures.lengths) c.leg_in_force-ended.ensures.within c.leg_in_force-ended.ensures.passed
    c.laid_from.ensures
