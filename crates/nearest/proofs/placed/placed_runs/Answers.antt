use Rattle.std.proofs.Common.{◌≡◌, ◌+◌, ◌-◌, ◌<◌, ◌≤◌, is_some, option_to_list, sym, ap, ◌∙◌, arith}
use Rattle.nearest.specs.Courses.{squared_along}
use Rattle.nearest.specs.Order.{separation_after}
use Rattle.nearest.proofs.PartLemmas.{squares_along, told_there}
use Rattle.nearest.proofs.SweepLemmas.{swept_more, swept_past}
use Rattle.nearest.proofs.placed.placed_runs.Goals as goal

pub append-requires : goal.append-requires
append-requires c = record {
  past =
      swept_past (λ t. is_some (squared_along c.args.from.now c.args.to.now t)) c.args.w.lo c.joining.at (c.common_from-common.result.span.hi + 1)
      c.is_some-placed.result c.joining.runs c.stretch_where.result c.joining.invariant.ticks c.stretch_where.ensures;
}

pub joining-preserved : goal.joining-preserved
joining-preserved c =
    let common = c.common_from-common.result in
    let span = common.span in
    let begins : span.lo ≡ c.joining.at = c.common_from-common.ensures.part.begins in
    let from = c.args.from.now in
    let to = c.args.to.now in
    let more : c.joining.at < span.hi + 1 = omega (arith, begins, span.ordered) in
    record {
      from = omega (arith, begins, span.ordered, c.joining.invariant.from);
      until = omega (arith, c.common_from-common.ensures.part.within);
      ticks =
          swept_more (λ t. is_some (squared_along from to t)) c.is_some-placed.result c.args.w.lo c.joining.at (span.hi + 1)
          c.joining.runs (option_to_list c.stretch_where.result) c.append.new.self c.joining.invariant.from more
          (λ t begun before.
          let after : span.lo ≤ t = omega (arith, begins, begun) in
          let up_to : t ≤ span.hi = omega arith in
          ap is_some
          (sym (squares_along from to common 1 t (c.common_from-common.ensures.epochs 0 t after up_to) (c.common_from-common.ensures.epochs 1 t after up_to))
          ∙ c.separation_in.ensures t after up_to)
          ∙ told_there c.separation_in.result (λ s. separation_after s (t - span.lo))
          ∙ sym c.is_some-placed.ensures)
          c.joining.invariant.ticks c.stretch_where.ensures c.in_ok-append.ensures.ticks;
    }
