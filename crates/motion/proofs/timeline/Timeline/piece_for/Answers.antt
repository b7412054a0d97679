use Rattle.std.proofs.Common.{arith}
use Rattle.motion.proofs.TimelineLemmas.{none_begun}
use Rattle.motion.proofs.timeline.Timeline.piece_for.Goals as goal

pub returns-then-count-eq0-clause-none : goal.returns-then-count-eq0-clause-none
returns-then-count-eq0-clause-none c = grind (arith, none_begun c.args.self.now c.args.at c.args.count)
