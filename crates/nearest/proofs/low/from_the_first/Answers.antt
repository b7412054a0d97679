use Rattle.std.proofs.Common.{◌-◌, refl}
use Rattle.std.specs.Int.{w128}
use Rattle.std.proofs.lemmas.Int.{to_z-of_z}
use Rattle.nearest.specs.Order.{difference_after}
use Rattle.nearest.proofs.LowLemmas.{run_from_first, turns}
use Rattle.nearest.proofs.low.from_the_first.Goals as goal

pub returns-in-Some : goal.returns-in-Some
returns-in-Some c =
    let d = c.args.d.now in
    let end = rw (to_z-of_z w128 c.args.limit c.ranges.limit) at c.in-Some.ensures in
    run_from_first (difference_after d) c.args.limit c.args.w (turns d.quadratic d.linear d.constant (c.args.w.hi - c.args.w.lo)) _ c.in-Some.end
    c.requires.low end refl refl
