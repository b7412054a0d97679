use Rattle.std.proofs.Common.{arith}
use Rattle.interval_set.proofs.OverlapLemmas.{clipped_more}
use Rattle.interval_set.proofs.overlap.part_in.Goals as goal

pub loop-s-preserved : goal.loop-s-preserved
loop-s-preserved c =
    let next = c.in-Some.ensures in
    record {
      room = omega (arith, next.parts.1);
      so_far = rw c.push_reserved.ensures.items (clipped_more _ _ _ _ _ c.in-Some.s.now _ c.loop-s.invariant.so_far next.parts.0 _ c.max.ensures c.min.ensures);
    }
