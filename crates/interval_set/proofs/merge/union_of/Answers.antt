use Rattle.std.proofs.Common.{arith}
use Rattle.tick_set.proofs.RunLemmas.{IsNormalFrom-weaker}
use Rattle.interval_set.proofs.MergeLemmas.{next_after, merged_more, merged_normal, merged_ticks}
use Rattle.interval_set.proofs.merge.union_of.Goals as goal

pub earliest-requires-in-loop-s-clause-first : goal.earliest-requires-in-loop-s-clause-first
earliest-requires-in-loop-s-clause-first c = IsNormalFrom-weaker c.loop-s.run.lo 0 _ (omega arith) c.loop-s.invariant.so_far.first_rest

pub earliest-requires-in-loop-s-clause-second : goal.earliest-requires-in-loop-s-clause-second
earliest-requires-in-loop-s-clause-second c = IsNormalFrom-weaker c.loop-s.run.lo 0 _ (omega arith) c.loop-s.invariant.so_far.second_rest

pub grown-run-requires-clause-ascending : goal.grown-run-requires-clause-ascending
grown-run-requires-clause-ascending c = next_after _ _ _ _ _ _ c.loop-s.invariant.so_far c.in-Some-earliest.s c.in-Some-earliest.ensures.one

pub loop-s-preserved : goal.loop-s-preserved
loop-s-preserved c =
    let next = c.in-Some-earliest.ensures in
    let run = c.grown-run.ensures in
    record {
      room = omega arith;
      so_far = merged_more _ _ _ _ _ _ c.loop-s.invariant.so_far c.in-Some-earliest.s _ _ _ c.grown-run.result next.least.0 next.least.1 next.ticks run.normal run.apart run.lo run.ticks;
    }

pub returns-clause-normal : goal.returns-clause-normal
returns-clause-normal c = rw c.push_reserved.ensures.items (merged_normal _ _ _ _ _ _ c.loop-s.invariant.so_far)

pub returns-clause-ticks : goal.returns-clause-ticks
returns-clause-ticks c =
    let none = c.in_default-earliest.ensures.none in
    rw c.push_reserved.ensures.items (merged_ticks _ _ _ _ _ _ c.loop-s.invariant.so_far none.0 none.1)
