use Rattle.std.proofs.Common.{refl}
use Rattle.std.specs.Int.{w128}
use Rattle.std.proofs.lemmas.Int.{to_z-of_z}
use Rattle.convex.proofs.BendLemmas.{low_ticks}
use Rattle.convex.proofs.stretch.at_most.Goals as goal

pub returns : goal.returns
returns g c =
    let ends = rw (to_z-of_z w128 c.args.limit c.ranges.limit) at c.in_ok-first.ensures.some in
    low_ticks (g.C.Convex.value c.args.f.now) (g.met.C.Convex.bends c.args.f.now) c.args.limit c.args.w _ c.in_ok-first.first c.in_ok-first.end
    ends refl refl
