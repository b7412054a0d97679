use Rattle.std.proofs.Common.{nat_lt, ap, ◌∙◌}
use Rattle.nearest.specs.Depth.{depth_at}
use Rattle.nearest.proofs.RowLemmas.{few_ranked}
use Rattle.nearest.proofs.slice.few_before.Goals as goal

pub returns : goal.returns
returns c =
    few_ranked c.args.aim.now.target.now c.args.rivals.now.courses.now c.args.o.now c.args.aim.now.k c.saturating_sub.result c.args.slice c.deref.result.now c.in_ok-runs.runs.items
    (λ t inside.
    ap (λ spans. nat_lt (depth_at spans t) c.saturating_sub.result) c.deref.ensures.value
    ∙ ap (λ left. nat_lt (depth_at c.gather.new.stretches.items t) left) c.saturating_sub.ensures
    ∙ c.in_ok-throughout.ensures t inside)
    c.in_ok-runs.ensures
