use Rattle.std.proofs.Common.{◌≡◌, ◌+◌, ◌≤◌, ◌&&◌, nat_le, nat_lt, sym, ap, ◌∙◌, arith}
use Rattle.tick_set.specs.Ticks.{within}
use Rattle.nearness.specs.Nearest.{stands_before}
use Rattle.nearest.specs.Courses.{goes_before, squared_in}
use Rattle.nearest.specs.Depth.{depth_at, one_if}
use Rattle.nearest.proofs.PartLemmas.{added, joined, squares_along}
use Rattle.nearest.proofs.pairs.add_by_parts.Goals as goal

pub joining-preserved : goal.joining-preserved
joining-preserved c =
    let common = c.common_from-common.result in
    let span = common.span in
    let begins : span.lo ≡ c.joining.at = c.common_from-common.ensures.part.begins in
    let target = c.args.target.now in
    let p = c.args.p.now in
    let o = c.args.o.now in
    record {
      from = omega (arith, begins, span.ordered, c.joining.invariant.from);
      until = omega (arith, c.common_from-common.ensures.part.within);
      depths = λ t.
          let seen = stands_before (squared_in common 1 t) p.id (squared_in common 2 t) o.id in
          let is = goes_before target p o t in
          let here : c.joining.at ≤ t → t ≤ span.hi → seen ≡ is = λ from up_to.
          let after : span.lo ≤ t = omega (arith, begins, from) in
          let target_in = c.common_from-common.ensures.epochs 0 t after up_to in
          let p_in = c.common_from-common.ensures.epochs 1 t after up_to in
          let o_in = c.common_from-common.ensures.epochs 2 t after up_to in
          λ i. stands_before (squares_along target p.timeline.now common 1 t target_in p_in i) p.id (squares_along target o.timeline.now common 2 t target_in o_in i) o.id in
          added (depth_at c.add.new.stretches.items t) (depth_at c.joining.stretches.items t) (depth_at c.args.stretches.now.items t)
          (one_if (nat_le c.args.w.lo t && nat_lt t c.joining.at && is)) (one_if (within c.joining.at span.hi t && seen))
          (one_if (nat_le c.args.w.lo t && nat_lt t (span.hi + 1) && is))
          (c.in_ok-add.ensures t
          ∙ ap (λ n. depth_at c.joining.stretches.items t + n) (c.before_in.ensures t ∙ ap (λ first. one_if (within first span.hi t && seen)) begins))
          (c.joining.invariant.depths t)
          (sym (joined c.args.w.lo c.joining.at span.hi t seen is c.joining.invariant.from (omega (arith, begins, span.ordered)) here));
    }
