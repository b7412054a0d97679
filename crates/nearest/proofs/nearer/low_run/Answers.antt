use Rattle.std.proofs.Common.{◌≡◌, ◌∙◌, arith}
use Rattle.std.proofs.lemmas.Int.{ints}
use mir.Syntax.{w128}
use mir.Val.{of_z, to_z}
use Rattle.nearest.specs.Order.{difference_after, separation_after}
use Rattle.nearest.proofs.OrderLemmas.{low_is_below}
use Rattle.nearest.proofs.nearer.low_run.Goals as goal

pub returns : goal.returns
returns c =
    let passed : to_z w128 (of_z w128 c.limit_for-limit.result) ≡ c.limit_for-limit.result = omega (arith, ints) in
    low_is_below (difference_after c.of.result) (separation_after c.args.first.now) (separation_after c.args.second.now) _ c.args.ties c.args.w _
    c.of.ensures (passed ∙ c.limit_for-limit.ensures.value) c.low_ticks.ensures
