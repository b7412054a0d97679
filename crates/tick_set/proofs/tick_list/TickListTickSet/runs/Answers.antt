use Rattle.tick_set.proofs.TickListLemmas.{runs_more}
use Rattle.tick_set.proofs.tick_list.TickListTickSet.runs.Goals as goal

pub loop-first-preserved : goal.loop-first-preserved
loop-first-preserved c =
    let run = c.run_from.ensures in
    rw c.in_ok-push.ensures.items (runs_more _ _ _ _ _ _ _ c.loop-first.invariant c.in-Some.ensures.cases.0 run.lo run.apart run.members)
