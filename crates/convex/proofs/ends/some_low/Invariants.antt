use Rattle.std.proofs.Common.{◌-◌}
use Rattle.convex.proofs.BendLemmas.{LowBetween}
use Rattle.convex.proofs.ends.some_low.Given as goal

abbrev pub invariant-halves : goal.invariant-halves
invariant-halves g l = LowBetween (g.C.Convex.value l.f) l.limit l.last l.low l.high

abbrev pub decreases-halves : goal.decreases-halves
decreases-halves g l = l.high - l.low
