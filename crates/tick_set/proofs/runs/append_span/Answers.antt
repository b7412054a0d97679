use Rattle.std.proofs.Common.{ap, refl}
use Rattle.tick_set.specs.declared.spans.Span.{Span}
use Rattle.tick_set.proofs.JoinLemmas.{joined_at, normal_longer, ticks_longer, normal_pushed, ticks_pushed}
use Rattle.tick_set.proofs.runs.append_span.Goals as goal

pub returns-in-Some-clause-normal : goal.returns-in-Some-clause-normal
returns-in-Some-clause-normal c =
    let last = rw c.deref.ensures.value at c.in-Some.ensures.last in
    normal_longer c.args.runs.now.items c.in-Some.index c.index.result.now _ last (ap (λ (s : Span). s.lo) c.index.ensures) c.requires.normal

pub returns-in-Some-clause-ticks : goal.returns-in-Some-clause-ticks
returns-in-Some-clause-ticks c =
    let last = rw c.deref.ensures.value at c.in-Some.ensures.last in
    let joined = joined_at c.args.runs.now.items c.in-Some.index c.index.result.now c.args.span last (rw c.deref.ensures.value at c.in-Some.ensures.joined) in
    ticks_longer c.args.runs.now.items c.in-Some.index c.index.result.now _ last (ap (λ (s : Span). s.lo) c.index.ensures)
    c.args.span refl joined

pub returns-in_ok-push-in-None-clause-normal : goal.returns-in_ok-push-in-None-clause-normal
returns-in_ok-push-in-None-clause-normal c =
    let apart = simp c.deref.ensures.value at c.in-None.ensures.apart in
    rw c.in_ok-push-in-None.ensures.items (normal_pushed c.args.runs.now.items c.args.span c.requires.normal c.requires.past apart)

pub returns-in_ok-push-in-None-clause-ticks : goal.returns-in_ok-push-in-None-clause-ticks
returns-in_ok-push-in-None-clause-ticks c = rw c.in_ok-push-in-None.ensures.items (ticks_pushed c.args.runs.now.items c.args.span)
