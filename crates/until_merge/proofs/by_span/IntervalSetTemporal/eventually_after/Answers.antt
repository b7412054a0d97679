use Rattle.std.proofs.Common.{◌∙◌, arith}
use Rattle.tick_set.specs.Runs.{spans_have}
use Rattle.until_merge.proofs.WindowLemmas.{last_tick, none_after, after_from_last, no_spans_after}
use Rattle.until_merge.proofs.by_span.IntervalSetTemporal.eventually_after.Goals as goal
use Rattle.until_merge.proofs.by_span.IntervalSetTemporal.eventually_after.Goals.{then-s-c-via-then-s-c, then-s-c-via-else-s-c+then-s-c-2}

pub returns-in_default : goal.returns-in_default
returns-in_default c = λ t. c.empty.ensures t ∙ no_spans_after _ _ _ _ _ c.spans.ensures.value c.in_default.ensures.cases t

pub returns-then-s-c : goal.returns-then-s-c
returns-then-s-c c = λ t.
    let last = last_tick c.args.self.now _ _ c.in-Some.s.now c.spans.ensures.value c.spans.ensures.normal c.in-Some.ensures.cases.0 in
    c.empty-then-s-c.ensures t
    ∙ none_after (spans_have c.args.self.now) _ _ c.requires _ last _
    (elim c.then-s-c.branch [ then-s-c-via-then-s-c w ↦ omega arith | then-s-c-via-else-s-c+then-s-c-2 w ↦ omega arith ]) t

pub returns : goal.returns
returns c = λ t.
    let last = last_tick c.args.self.now _ _ c.in-Some.s.now c.spans.ensures.value c.spans.ensures.normal c.in-Some.ensures.cases.0 in
    c.in_ok-early.ensures t ∙ after_from_last (spans_have c.args.self.now) _ _ c.requires _ last _ c.if-s-c.false t
