use Rattle.std.proofs.Common.{◌≡◌, ℕ, ◌+◌, ◌-◌, ◌&&◌, nat_lt, sym, ap, subst, ◌∙◌}
use Rattle.linear_crossing.specs.Zones.{spans_of}
use Rattle.tick_set.specs.Ticks.{within}
use Rattle.nearness.specs.Nearest.{stands_before}
use Rattle.nearest.specs.Courses.{goes_before}
use Rattle.nearest.specs.Depth.{depth_at, one_if}
use Rattle.nearest.specs.Order.{is_below, separation_after}
use Rattle.nearest.specs.Sights.{IsSight, IsStraight}
use Rattle.nearest.proofs.PartLemmas.{guarded}
use Rattle.nearest.proofs.pairs.add_before.Goals as goal
use Rattle.exact.proofs.Items.{on_ok}

pub returns-in-Straight-sight : goal.returns-in-Straight-sight
returns-in-Straight-sight c =
    let w = c.args.w in
    let target = c.args.target.now in
    let p = c.args.p.now in
    let o = c.args.o.now in
    let first = c.in-Straight.first.separation in
    let second = c.in-Straight-sight.second.separation in
    let old = c.args.stretches.now.items in
    let new = c.add.new.stretches.items in
    let of_p : IsStraight target p.timeline.now w c.in-Straight.first =
    subst (IsSight target p.timeline.now w) c.in-Straight.is c.requires.p_seen in
    let of_o : IsStraight target o.timeline.now w c.in-Straight-sight.second =
    subst (IsSight target o.timeline.now w) c.in-Straight-sight.is c.requires.o_seen in
    on_ok c.add.result ((t : ℕ) → depth_at new t ≡ depth_at old t + depth_at (spans_of c.nearer-found.result) t)
    ((t : ℕ) → depth_at new t ≡ depth_at old t + one_if (within w.lo w.hi t && goes_before target p o t))
    (λ more t.
    more t
    ∙ ap (λ n. depth_at old t + n)
    (c.nearer-found.ensures t
    ∙ ap one_if
    (guarded w.lo w.hi t (is_below (nat_lt p.id o.id) (separation_after first (t - w.lo)) (separation_after second (t - w.lo))) (goes_before target p o t)
    (λ from up_to. λ i. stands_before (sym (of_p.tells t from up_to) i) p.id (sym (of_o.tells t from up_to) i) o.id))))
    c.add.ensures
