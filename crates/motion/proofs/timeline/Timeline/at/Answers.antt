use Rattle.std.proofs.Common.{arith}
use Rattle.std.proofs.lemmas.Grind.{common_steps}
use Rattle.std.proofs.lemmas.Option.{gets}
use Rattle.motion.proofs.TimelineLemmas.{none_begun, last_begun_at}
use Rattle.motion.proofs.timeline.Timeline.at.Goals as goal

pub returns-in_err-index : goal.returns-in_err-index
returns-in_err-index c = grind (arith, none_begun c.args.self.now c.args.t c.begun_count.result)

pub returns : goal.returns
returns c = grind (arith, common_steps, gets, last_begun_at c.args.self.now c.args.t c.begun_count.result c.in_ok-index.index)
