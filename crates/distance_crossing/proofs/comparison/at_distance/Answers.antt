use Rattle.std.proofs.Common.{arith}
use Rattle.std.proofs.lemmas.Int.{ints}
use Rattle.distance_crossing.proofs.ByDistance.{below_inside, at_distance_runs}
use Rattle.distance_crossing.proofs.comparison.at_distance.Goals as goal

pub without-requires : goal.without-requires
without-requires g c =
    below_inside c.args.q.now c.args.w c.args.square _ _ c.below-below.result c.within-at_most.result (omega (arith, ints)) (omega (arith, ints))
    c.below-below.ensures.runs c.within-at_most.ensures.runs

pub returns-clause-runs : goal.returns-clause-runs
returns-clause-runs g c =
    at_distance_runs c.args.q.now c.args.w c.args.square _ _ c.below-below.result c.within-at_most.result (omega (arith, ints)) (omega (arith, ints))
    c.below-below.ensures.runs c.within-at_most.ensures.runs c.without.result c.without.ensures
