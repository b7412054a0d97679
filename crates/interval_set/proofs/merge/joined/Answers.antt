use Rattle.std.proofs.Common.{arith}
use Rattle.interval_set.proofs.MergeLemmas.{joined_more, joined_normal, joined_ticks}
use Rattle.interval_set.proofs.merge.joined.Goals as goal

pub spans-preserved : goal.spans-preserved
spans-preserved c =
    let run = c.grown-run.ensures in
    record {
      room = omega (arith, c.in-Some-split_first.ensures.cases.1);
      so_far = joined_more _ _ _ _ c.spans.invariant.so_far _ _ _ c.grown-run.result c.in-Some-split_first.ensures.cases.0 run.normal run.apart run.lo run.ticks;
    }

pub returns-clause-normal : goal.returns-clause-normal
returns-clause-normal c = rw c.push_reserved.ensures.items (joined_normal _ _ _ _ c.spans.invariant.so_far)

pub returns-clause-ticks : goal.returns-clause-ticks
returns-clause-ticks c = rw c.push_reserved.ensures.items (joined_ticks _ _ _ _ c.spans.invariant.so_far c.in_default-split_first.ensures.cases)
