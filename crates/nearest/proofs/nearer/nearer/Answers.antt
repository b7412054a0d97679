use Rattle.std.proofs.Common.{◌-◌, ◌&&◌, Bool, ap, ◌∙◌}
use Rattle.std.specs.Prelude.{not}
use Rattle.tick_set.specs.Ticks.{within}
use Rattle.nearest.specs.Depth.{one_if}
use Rattle.nearest.specs.Order.{is_below, separation_after}
use Rattle.nearest.proofs.OrderLemmas.{all_but_those, order_turned}
use Rattle.nearest.proofs.nearer.nearer.Goals as goal

pub returns-else-second-first : goal.returns-else-second-first
returns-else-second-first c = λ t.
    let w = c.args.w in
    let d = separation_after c.args.first.now (t - w.lo) in
    let e = separation_after c.args.second.now (t - w.lo) in
    c.all_but.ensures t
    ∙ ap (λ (b : Bool). one_if (within w.lo w.hi t && not b)) (c.low_run-else-second-first.ensures.ticks t)
    ∙ ap one_if (all_but_those (within w.lo w.hi t) (is_below (not c.args.ties) e d) (is_below c.args.ties d e) (order_turned c.args.ties d e))
