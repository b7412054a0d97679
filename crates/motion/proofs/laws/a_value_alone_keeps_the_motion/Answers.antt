use Rattle.motion.proofs.LegLemmas.{moved_slope}
use Rattle.motion.proofs.laws.a_value_alone_keeps_the_motion.Goals as goal

pub returns : goal.returns
returns c = moved_slope
