use Rattle.std.proofs.Common.{◌-◌, refl}
use Rattle.std.specs.Int.{w128}
use Rattle.std.proofs.lemmas.Int.{to_z-of_z}
use Rattle.nearest.specs.Order.{difference_after}
use Rattle.nearest.proofs.LowLemmas.{run_to_last, turns}
use Rattle.nearest.proofs.low.to_the_last.Goals as goal

pub returns-in-Some : goal.returns-in-Some
returns-in-Some c =
    let d = c.args.d.now in
    let first = rw (to_z-of_z w128 c.args.limit c.ranges.limit) at c.in-Some.ensures in
    run_to_last (difference_after d) c.args.limit c.args.w (turns d.quadratic d.linear d.constant (c.args.w.hi - c.args.w.lo)) _ c.in-Some.first
    c.requires.low first refl refl
