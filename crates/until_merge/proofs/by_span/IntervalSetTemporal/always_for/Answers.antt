use Rattle.std.proofs.Common.{◌∙◌}
use Rattle.tick_set.specs.Runs.{spans_have}
use Rattle.until_merge.proofs.WindowLemmas.{held_within}
use Rattle.until_merge.proofs.by_span.IntervalSetTemporal.always_for.Goals as goal

pub returns : goal.returns
returns c = λ t.
    let held = rw c.spans.ensures.value at (c.in_ok-held.ensures.ticks t) in
    rw c.from_runs.ensures (held ∙ held_within (spans_have c.args.self.now) _ _ c.requires _ t)
