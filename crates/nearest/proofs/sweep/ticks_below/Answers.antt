use Rattle.std.proofs.Common.{ap, ◌∙◌}
use Rattle.nearest.specs.Depth.{count_to}
use Rattle.nearest.proofs.SweepLemmas.{few_by_counts}
use Rattle.nearest.proofs.sweep.ticks_below.Goals as goal

pub returns : goal.returns
returns c =
    few_by_counts c.deref.result.now c.deref-2.result.now c.args.stretches.now c.args.k c.args.w c.in_ok-runs.runs.items
    (λ t. ap (λ xs. count_to xs t) c.deref.ensures.value ∙ c.sorted-starts.ensures.counts t ∙ ap (λ xs. count_to xs t) c.in_ok-begins.ensures)
    (λ t. ap (λ xs. count_to xs t) c.deref-2.ensures.value ∙ c.sorted-ends.ensures.counts t ∙ ap (λ xs. count_to xs t) c.in_ok-past.ensures)
    c.in_ok-runs.ensures
