use Rattle.std.proofs.Common.{◌≡◌, ℕ, ◌-◌, ◌≤◌, ℤ, pos, ◌≤ℤ◌, Bool, true, nat_lt, List, subst, ◌∙◌, arith}
use Rattle.std.proofs.lemmas.Bool.Decides.{nat_tests}
use Rattle.motion.specs.Timeline.{Epoch}
use Rattle.tick_set.specs.Ticks.{within}
use Rattle.tick_set.specs.declared.spans.Window.{Window}
use Rattle.nearness.specs.Nearest.{stands_before}
use Rattle.nearest.specs.Courses.{goes_before}
use Rattle.nearest.specs.Order.{is_below, separation_after}
use Rattle.nearest.specs.Sights.{IsSeenFrom, IsSight, IsStraight}
use Rattle.nearest.proofs.pairs.known_order.Goals as goal
use Rattle.exact.proofs.Items.{if_some_map}

pub returns-in-Straight-sight : goal.returns-in-Straight-sight
returns-in-Straight-sight c =
    let p = c.args.p.now in
    let o = c.args.o.now in
    let first = c.in-Straight.first in
    let second = c.in-Straight-sight.second in
    if_some_map c.order_by_bounds.result
    (λ (below : Bool). (d e : ℤ) → first.least ≤ℤ d → d ≤ℤ pos first.most → second.least ≤ℤ e → e ≤ℤ pos second.most → is_below (nat_lt p.id o.id) d e ≡ below)
    (λ (before : Bool). (from : List Epoch) (w : Window) → IsSeenFrom from w p → IsSeenFrom from w o → (t : ℕ) → within w.lo w.hi t ≡ true → goes_before from p o t ≡ before)
    (λ before told from w p_seen o_seen t inside.
    let of_p : IsStraight from p.timeline.now w first = subst (IsSight from p.timeline.now w) c.in-Straight.is p_seen in
    let of_o : IsStraight from o.timeline.now w second = subst (IsSight from o.timeline.now w) c.in-Straight-sight.is o_seen in
    let begun : w.lo ≤ t = grind (arith, nat_tests) in
    let up_to : t ≤ w.hi = grind (arith, nat_tests) in
    let near = of_p.bounds t begun up_to in
    let far = of_o.bounds t begun up_to in
    (λ i. stands_before (of_p.tells t begun up_to i) p.id (of_o.tells t begun up_to i) o.id)
    ∙ told (separation_after first.separation (t - w.lo)) (separation_after second.separation (t - w.lo)) near.0 near.1 far.0 far.1)
    c.order_by_bounds.ensures
