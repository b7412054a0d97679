use Rattle.std.proofs.Common.{◌≡◌, pos, ◌*ℤ◌, ◌≤ℤ◌, arith}
use Rattle.std.proofs.lemmas.Int.{ints}
use Rattle.exact.proofs.Sizes.{steps}
use Rattle.distance_crossing.proofs.ByDistance.{held_Lt, held_Le, held_Eq, held_Ne, held_Ge, held_Gt, near_inside}
use Rattle.distance_crossing.proofs.comparison.compare.Goals as goal

pub outside-requires-in-Ge-clause-inside : goal.outside-requires-in-Ge-clause-inside
outside-requires-in-Ge-clause-inside g c = near_inside c.args.q.now c.args.w _ c.nearer-in-Ge.result c.single-in-Ge.result c.nearer-in-Ge.ensures.runs c.single-in-Ge.ensures.spans

pub returns-in-Lt-clause-runs : goal.returns-in-Lt-clause-runs
returns-in-Lt-clause-runs g c =
    let positive : pos 0 ≤ℤ c.args.c = omega (arith, ints) in
    let is_square : c.times-square.result ≡ c.args.c *ℤ c.args.c = grind (arith, steps) in
    held_Lt c.args.q.now c.args.w c.args.op c.args.c c.times-square.result c.inside.result positive is_square _ c.nearer.result c.single.result c.nearer.ensures.runs c.single.ensures.spans c.in-Lt.is (omega (arith, ints)) c.inside.ensures

pub returns-in-Le-clause-runs : goal.returns-in-Le-clause-runs
returns-in-Le-clause-runs g c =
    let positive : pos 0 ≤ℤ c.args.c = omega (arith, ints) in
    let is_square : c.times-square.result ≡ c.args.c *ℤ c.args.c = grind (arith, steps) in
    held_Le c.args.q.now c.args.w c.args.op c.args.c c.times-square.result c.inside-in-Le.result positive is_square _ c.within.result c.single-in-Le.result c.within.ensures.runs c.single-in-Le.ensures.spans c.in-Le.is (omega (arith, ints)) c.inside-in-Le.ensures

pub returns-in-Eq-clause-runs : goal.returns-in-Eq-clause-runs
returns-in-Eq-clause-runs g c =
    let positive : pos 0 ≤ℤ c.args.c = omega (arith, ints) in
    let is_square : c.times-square.result ≡ c.args.c *ℤ c.args.c = grind (arith, steps) in
    held_Eq c.args.q.now c.args.w c.args.op c.args.c c.times-square.result c.inside-in-Eq.result positive is_square _ c.at_distance.result c.at_distance.ensures.runs c.in-Eq.is (omega (arith, ints)) c.inside-in-Eq.ensures

pub returns-in-Ne-clause-runs : goal.returns-in-Ne-clause-runs
returns-in-Ne-clause-runs g c =
    let positive : pos 0 ≤ℤ c.args.c = omega (arith, ints) in
    let is_square : c.times-square.result ≡ c.args.c *ℤ c.args.c = grind (arith, steps) in
    held_Ne c.args.q.now c.args.w c.args.op c.args.c c.times-square.result c.outside.result positive is_square _ c.at_distance-in-Ne.result c.at_distance-in-Ne.ensures.runs c.in-Ne.is (omega (arith, ints)) c.outside.ensures

pub returns-in-Ge-clause-runs : goal.returns-in-Ge-clause-runs
returns-in-Ge-clause-runs g c =
    let positive : pos 0 ≤ℤ c.args.c = omega (arith, ints) in
    let is_square : c.times-square.result ≡ c.args.c *ℤ c.args.c = grind (arith, steps) in
    held_Ge c.args.q.now c.args.w c.args.op c.args.c c.times-square.result c.outside-in-Ge.result positive is_square _ c.nearer-in-Ge.result c.single-in-Ge.result c.nearer-in-Ge.ensures.runs c.single-in-Ge.ensures.spans c.in-Ge.is (omega (arith, ints)) c.outside-in-Ge.ensures

pub returns-in-Gt-clause-runs : goal.returns-in-Gt-clause-runs
returns-in-Gt-clause-runs g c =
    let positive : pos 0 ≤ℤ c.args.c = omega (arith, ints) in
    let is_square : c.times-square.result ≡ c.args.c *ℤ c.args.c = grind (arith, steps) in
    held_Gt c.args.q.now c.args.w c.args.op c.args.c c.times-square.result c.outside-in-Gt.result positive is_square _ c.within-in-Gt.result c.single-in-Gt.result c.within-in-Gt.ensures.runs c.single-in-Gt.ensures.spans c.in-Gt.is (omega (arith, ints)) c.outside-in-Gt.ensures
