use Rattle.std.proofs.Common.{arith}
use Rattle.std.proofs.lemmas.Bool.Decides.{nat_tests}
use Rattle.tick_set.proofs.tick_list.TickList.push_span.Goals as goal

pub push-requires-clause-above : goal.push-requires-clause-above
push-requires-clause-above c = λ u e. grind (arith, nat_tests, c.loop-t.invariant u)
