use Rattle.std.proofs.Common.{◌∙◌}
use Rattle.tick_set.specs.Runs.{spans_have}
use Rattle.until_merge.proofs.WindowLemmas.{until_within_window}
use Rattle.until_merge.proofs.by_span.IntervalSetTemporal.until_within.Goals as goal

pub returns : goal.returns
returns c = λ t.
    let found = rw (c.spans.ensures.value, c.spans-2.ensures.value) at (c.in_ok-until_within.ensures.ticks t) in
    rw c.from_runs.ensures (found ∙ until_within_window (spans_have c.args.self.now) (spans_have c.args.h.now) _ _ c.requires.guard c.requires.goal _ t)
