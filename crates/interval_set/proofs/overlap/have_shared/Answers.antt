use Rattle.std.proofs.Common.{◌<◌, arith}
use Rattle.interval_set.proofs.OverlapLemmas.{shared_now, shared_past_first, shared_past_second, ends_first, ends_second}
use Rattle.interval_set.proofs.overlap.have_shared.Goals as goal
use Rattle.interval_set.proofs.overlap.have_shared.Goals.{else-s-t-via-then-s-t+else-t-s, else-s-t-via-else-s-t}

pub returns-then-t-s-clause-some : goal.returns-then-t-s-clause-some
returns-then-t-s-clause-some c =
    let both = c.in-Some-Some in
    λ _. shared_now _ _ _ _ both.s.now both.t.now _ _ c.both.invariant both.ensures.cases.0 both.ensures'.cases.0 c.if-s-t.true c.if-t-s.true

pub both-preserved-then-t-s-2 : goal.both-preserved-then-t-s-2
both-preserved-then-t-s-2 c =
    let both = c.in-Some-Some in
    let apart : both.t.now.hi < both.s.now.lo =
    elim c.else-s-t.branch [
      | else-s-t-via-then-s-t+else-t-s w ↦ ends_second both.s.now both.t.now w.if-t-s.false c.if-t-s-2.true
      | else-s-t-via-else-s-t w ↦ omega (arith, w.if-s-t.false)
    ] in
    shared_past_second _ _ _ _ both.s.now both.t.now _ _ c.both.invariant both.ensures.cases.0 both.ensures'.cases.0 apart

pub both-preserved : goal.both-preserved
both-preserved c =
    let both = c.in-Some-Some in
    let apart : both.s.now.hi < both.t.now.lo =
    elim c.else-s-t.branch [
      | else-s-t-via-then-s-t+else-t-s w ↦ omega (arith, w.if-t-s.false)
      | else-s-t-via-else-s-t w ↦ ends_first both.s.now both.t.now w.if-s-t.false c.if-t-s-2.false
    ] in
    shared_past_first _ _ _ _ both.s.now both.t.now _ _ c.both.invariant both.ensures.cases.0 both.ensures'.cases.0 apart
