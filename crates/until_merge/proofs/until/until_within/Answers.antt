use Rattle.std.proofs.Common.{refl}
use Rattle.until_merge.proofs.UntilLemmas.{until_init, until_ascending, until_more, until_all, until_all_normal, until_nowhere}
use Rattle.until_merge.proofs.until.until_within.Goals as goal

pub returns-in_default-clause-ticks : goal.returns-in_default-clause-ticks
returns-in_default-clause-ticks c = until_nowhere _ _ _ _ c.in_ok-made.ensures.items c.in_default.ensures.cases

pub loop-s-init : goal.loop-s-init
loop-s-init c =
    let guards = c.past-guards.ensures in
    until_init _ _ _ _ c.in-Some.first.now _ _ _ c.requires.guard c.requires.goal c.in-Some.ensures.cases.0 c.in_ok-made.ensures.items guards.normal
    (rw c.saturating_sub.ensures at guards.past) c.start-lo.ensures

pub joined-requires-clause-ascending : goal.joined-requires-clause-ascending
joined-requires-clause-ascending c =
    let s = c.in-Some-split_first.s.now in
    let guards = c.past-guards-in-Some-split_first.ensures in
    until_ascending _ _ _ _ _ _ _ _ c.loop-s.invariant c.requires.guard s _ _ _ c.in-Some-split_first.ensures.cases.0
    (rw c.saturating_sub-in-Some-split_first.ensures at guards.past) c.start.ensures

pub loop-s-preserved : goal.loop-s-preserved
loop-s-preserved c =
    let s = c.in-Some-split_first.s.now in
    let guards = c.past-guards-in-Some-split_first.ensures in
    let run = c.in_ok-lo.ensures in
    until_more _ _ _ _ _ _ _ _ c.loop-s.invariant c.requires.guard s _ _ _ c.in-Some-split_first.ensures.cases.0
    (rw c.saturating_sub-in-Some-split_first.ensures at guards.past) c.start.ensures _ _ guards.normal run.normal run.apart run.lo run.ticks

pub returns-clause-normal : goal.returns-clause-normal
returns-clause-normal c = rw c.in_ok-push.ensures.items (until_all_normal _ _ _ _ _ _ _ _ c.loop-s.invariant _ refl)

pub returns-clause-ticks : goal.returns-clause-ticks
returns-clause-ticks c = rw c.in_ok-push.ensures.items (until_all _ _ _ _ _ _ _ _ c.loop-s.invariant c.in_default-split_first.ensures.cases _ refl refl)
