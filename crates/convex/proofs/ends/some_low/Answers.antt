use Rattle.std.proofs.Common.{arith}
use Rattle.std.proofs.lemmas.Int.{ints}
use Rattle.convex.proofs.BendLemmas.{between_rising, between_falling}
use Rattle.convex.proofs.ends.some_low.Goals as goal

pub halves-preserved-then-at-value : goal.halves-preserved-then-at-value
halves-preserved-then-at-value g c =
    between_falling (g.C.Convex.value c.args.f.now) (g.met.C.Convex.bends c.args.f.now) _ c.args.last c.halves.low c.halves.high _
    c.halves.invariant (omega arith) (omega arith) (omega (arith, ints)) (omega (arith, ints))

pub halves-preserved : goal.halves-preserved
halves-preserved g c =
    between_rising (g.C.Convex.value c.args.f.now) (g.met.C.Convex.bends c.args.f.now) _ c.args.last c.halves.low c.halves.high _
    c.halves.invariant (omega arith) (omega arith) (omega (arith, ints)) (omega (arith, ints))
