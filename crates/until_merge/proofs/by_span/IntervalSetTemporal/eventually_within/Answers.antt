use Rattle.std.proofs.Common.{◌∙◌}
use Rattle.tick_set.specs.Runs.{spans_have}
use Rattle.until_merge.proofs.WindowLemmas.{until_by_window, one_span}
use Rattle.until_merge.proofs.by_span.IntervalSetTemporal.eventually_within.Goals as goal

pub returns : goal.returns
returns c = λ t.
    let found = rw c.spans.ensures.value at (c.in_ok-until_within.ensures.ticks t) in
    rw c.from_runs.ensures (found ∙ until_by_window (spans_have c.args.self.now) _ _ c.requires _ (one_span c.span.result _ _ c.span.ensures.0 c.span.ensures.1) _ t)
