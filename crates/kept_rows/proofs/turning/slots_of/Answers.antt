use Rattle.std.proofs.Common.{◌≡◌, ◌||◌, List, true, subst}
use Rattle.tick_set.specs.declared.spans.Span.{Span}
use Rattle.tick_set.specs.Runs.{spans_have}
use Rattle.tick_set.specs.Ticks.{within}
use Rattle.kept_rows.specs.Slots.{has_slot}
use Rattle.kept_rows.proofs.SlotLemmas.{or_grown}
use Rattle.kept_rows.proofs.turning.slots_of.Goals as goal

pub spans-preserved : goal.spans-preserved
spans-preserved c = λ t e.
    or_grown (has_slot c.spans.slots t) (has_slot c.with_span-slots.result t) (within c.in-Some.s.now.lo c.in-Some.s.now.hi t) (spans_have c.in-Some.later.now t)
    (c.with_span-slots.ensures t)
    (subst (λ (xs : List Span). (has_slot c.spans.slots t || spans_have xs t) ≡ true) c.in-Some.ensures.cases.0 (c.spans.invariant t e))
