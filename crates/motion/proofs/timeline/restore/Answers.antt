use Rattle.std.proofs.Common.{arith}
use Rattle.motion.proofs.TimelineLemmas.{set_last}
use Rattle.motion.proofs.timeline.restore.Goals as goal

pub returns-in-Some-last_mut : goal.returns-in-Some-last_mut
returns-in-Some-last_mut c = grind (arith, set_last)
