use Rattle.std.proofs.Common.{arith}
use Rattle.std.proofs.lemmas.Bool.Decides.{nat_tests}
use Rattle.tick_set.proofs.TickListLemmas.{part_keeps, part_drops, in_part}
use Rattle.tick_set.proofs.tick_list.TickList.push_part.Goals as goal
use Rattle.tick_set.proofs.tick_list.TickList.push_part.Goals.{else-from-t-via-then-from-t+else-t-until, else-from-t-via-else-from-t}

pub ticks-preserved-in_ok-push : goal.ticks-preserved-in_ok-push
ticks-preserved-in_ok-push c =
    part_keeps (in_part c.args.from c.args.until) _ _ _ _ _ _ c.ticks.invariant c.in-Some.ensures.cases.0 _ c.in_ok-push.ensures.members
    (grind (arith, nat_tests, c.if-from-t.true, c.if-t-until.true))

pub ticks-preserved : goal.ticks-preserved
ticks-preserved c =
    part_drops (in_part c.args.from c.args.until) _ _ _ _ _ _ c.ticks.invariant c.in-Some.ensures.cases.0
    (elim c.else-from-t.branch [ else-from-t-via-then-from-t+else-t-until w ↦ grind (arith, nat_tests, w.if-t-until.false) | else-from-t-via-else-from-t w ↦ grind (arith, nat_tests, w.if-from-t.false) ])
