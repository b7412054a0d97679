use Rattle.std.proofs.Common.{◌-◌}
use Rattle.convex.proofs.BendLemmas.{HighThenLow}
use Rattle.convex.proofs.ends.first_low.Given as goal

abbrev pub invariant-halves : goal.invariant-halves
invariant-halves g l = HighThenLow (g.C.Convex.value l.f) l.limit l.from l.until l.high l.low

abbrev pub decreases-halves : goal.decreases-halves
decreases-halves g l = l.low - l.high
