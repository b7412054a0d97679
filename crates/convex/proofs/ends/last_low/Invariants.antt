use Rattle.std.proofs.Common.{◌-◌}
use Rattle.convex.proofs.BendLemmas.{LowThenHigh}
use Rattle.convex.proofs.ends.last_low.Given as goal

abbrev pub invariant-halves : goal.invariant-halves
invariant-halves g l = LowThenHigh (g.C.Convex.value l.f) l.limit l.from l.until l.low l.high

abbrev pub decreases-halves : goal.decreases-halves
decreases-halves g l = l.high - l.low
