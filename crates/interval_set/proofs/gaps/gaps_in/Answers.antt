use Rattle.std.proofs.Common.{◌+◌, refl, arith}
use Rattle.tick_set.proofs.RunLemmas.{IsNormalFrom-weaker}
use Rattle.interval_set.proofs.GapLemmas.{gaps_more}
use Rattle.interval_set.proofs.gaps.gaps_in.Goals as goal

pub first_by-requires : goal.first_by-requires
first_by-requires c = IsNormalFrom-weaker (c.loop-s.from + 1) 0 _ (omega arith) c.loop-s.invariant.so_far.rest_normal

pub loop-s-preserved : goal.loop-s-preserved
loop-s-preserved c =
    let next = c.in-Some.ensures in
    record {
      room = omega (arith, next.parts.1);
      so_far = rw c.push_reserved.ensures.items (gaps_more _ _ _ _ _ _ c.loop-s.invariant.so_far c.in-Some.s.now _ _ next.parts.0 next.begins refl refl);
    }
