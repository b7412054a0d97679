use Rattle.std.proofs.Common.{arith}
use Rattle.std.proofs.lemmas.Bool.Decides.{nat_tests}
use Rattle.motion.proofs.CallerLemmas.{last_begun}
use Rattle.motion.proofs.TimelineLemmas.{begun_by_last}
use Rattle.motion.proofs.timeline.Timeline.is_begun_by.Goals as goal

pub returns-in-Some : goal.returns-in-Some
returns-in-Some c = (
  λ is. begun_by_last c.args.self.now c.args.t c.in-Some.last.now (grind arith) (grind arith) (grind (arith, nat_tests)),
  λ by. let early = last_begun c.args.self.now c.args.t c.in-Some.last.now (grind arith) by in grind (arith, nat_tests, early),
)
