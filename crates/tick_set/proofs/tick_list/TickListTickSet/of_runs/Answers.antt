use Rattle.tick_set.proofs.TickListLemmas.{run_above, filled_more}
use Rattle.tick_set.proofs.tick_list.TickListTickSet.of_runs.Goals as goal

pub push_span-requires : goal.push_span-requires
push_span-requires c = record { above = run_above _ _ _ _ _ c.loop-s.invariant c.in-Some.ensures.cases.0 }

pub loop-s-preserved : goal.loop-s-preserved
loop-s-preserved c = filled_more _ _ _ _ _ c.loop-s.invariant c.in-Some.ensures.cases.0 _ c.in_ok-push_span.ensures
