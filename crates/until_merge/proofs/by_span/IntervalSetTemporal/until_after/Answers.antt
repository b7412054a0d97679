use Rattle.std.proofs.Common.{◌∙◌, ◌+◌, ◌&&◌, leb, ap, arith}
use Rattle.tick_set.specs.Runs.{spans_have}
use Rattle.until_merge.proofs.WindowLemmas.{both_same, held_and_until}
use Rattle.until_merge.proofs.by_span.IntervalSetTemporal.until_after.Goals as goal

pub returns : goal.returns
returns c = λ t.
    let g = spans_have c.args.self.now in
    let h = spans_have c.args.h.now in
    let held = rw c.spans.ensures.value at (c.in_ok-held.ensures.ticks t) in
    let found = rw (c.spans-2.ensures.value, c.spans-3.ensures.value) at (c.in_ok-leading.ensures.ticks (t + c.args.c)) in
    let moved = rw c.deref.ensures.value at (c.in_ok-moved.ensures.ticks t) in
    let reached = moved ∙ ap (λ b. leb c.args.w.lo t && b) found in
    c.in_ok-both.ensures.ticks t
    ∙ rw (c.from_runs-guarded.ensures, c.from_runs-reached.ensures) (both_same _ _ _ _ held reached)
    ∙ held_and_until g h _ _ c.requires.guard c.requires.goal c.args.c 1000000001 t (omega arith) (omega (arith, c.args.w.in_range))
