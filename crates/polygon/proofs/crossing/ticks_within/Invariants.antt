use Rattle.std.proofs.Common.{length}
use Rattle.polygon.proofs.TickLemmas.{Narrowed}
use Rattle.polygon.proofs.crossing.ticks_within.Given as goal

abbrev pub invariant-loop-start : goal.invariant-loop-start
invariant-loop-start l = Narrowed l.first l.points l.rest l.l l.margin l.w l.kept

abbrev pub decreases-loop-start : goal.decreases-loop-start
decreases-loop-start l = length l.rest
