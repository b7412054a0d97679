use Rattle.std.proofs.Common.{◌∙◌, option_map, ap, sym, arith}
use Rattle.tick_set.proofs.RunLemmas.{IsNormalFrom-push}
use Rattle.tick_set.specs.declared.spans.Span.{Span}
use Rattle.replica.proofs.SpanLemmas.{below_more, goes_on, stops_early, stops_without}
use Rattle.replica.proofs.text.spans_of.Goals as goal

pub returns-in_default-span_of-clause-value : goal.returns-in_default-span_of-clause-value
returns-in_default-span_of-clause-value c =
    let so_far = rw c.in-Some.is at c.words.invariant.whole in
    stops_without _ c.words.spans.items c.words.least c.in-Some.left.now _ _ so_far c.cut.ensures.value
    (sym c.span_of.ensures ∙ ap (λ r. option_map (λ (span : Span). (span.lo, span.hi)) r) c.in_default-span_of.is)

pub returns-then-span-least-clause-value : goal.returns-then-span-least-clause-value
returns-then-span-least-clause-value c =
    let so_far = rw c.in-Some.is at c.words.invariant.whole in
    stops_early _ c.words.spans.items c.words.least c.in-Some.left.now _ _ c.in-Some-span_of.span so_far c.cut.ensures.value
    (sym (ap (λ r. option_map (λ (span : Span). (span.lo, span.hi)) r) c.in-Some-span_of.is) ∙ c.span_of.ensures) c.if-span-least.true

pub words-preserved : goal.words-preserved
words-preserved c =
    let so_far = rw c.in-Some.is at c.words.invariant.whole in
    let span = c.in-Some-span_of.span in
    let found = sym (ap (λ r. option_map (λ (span : Span). (span.lo, span.hi)) r) c.in-Some-span_of.is) ∙ c.span_of.ensures in
    let before = c.words.invariant.below in
    record {
      whole = rw c.in_ok-push.ensures.items (goes_on _ c.words.spans.items c.words.least c.in-Some.left.now _ _ span so_far c.cut.ensures.value found c.if-span-least.false);
      normal = rw c.in_ok-push.ensures.items (IsNormalFrom-push c.words.spans.items 0 span c.words.invariant.normal (λ t e. omega (arith, before t e, c.if-span-least.false)) (omega arith));
      below = λ t. rw c.in_ok-push.ensures.items (below_more c.words.spans.items span c.words.least t before c.if-span-least.false);
      small = omega (arith, span.in_range);
    }
