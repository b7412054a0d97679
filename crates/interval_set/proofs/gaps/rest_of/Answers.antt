use Rattle.std.proofs.Common.{◌+◌, refl, arith}
use Rattle.tick_set.proofs.RunLemmas.{IsNormalFrom-weaker}
use Rattle.interval_set.proofs.GapLemmas.{left_apart, left_cut, left_whole}
use Rattle.interval_set.proofs.gaps.rest_of.Goals as goal

pub first_by-requires : goal.first_by-requires
first_by-requires c = IsNormalFrom-weaker c.loop-s.from 0 _ (omega arith) c.loop-s.invariant.so_far.second_rest

pub add_stretch-requires-clause-apart : goal.add_stretch-requires-clause-apart
add_stretch-requires-clause-apart c =
    left_apart _ _ _ _ _ _ c.in-Some.s.now _ _ c.in-Some-first_by.t.now.lo c.loop-s.invariant.so_far c.in-Some.ensures.cases.0 c.max-lo.ensures (omega (arith, c.in-Some-first_by.ensures.begins))

pub loop-s-preserved-in-Some-first_by : goal.loop-s-preserved-in-Some-first_by
loop-s-preserved-in-Some-first_by c =
    let next = c.in-Some-first_by.ensures in
    let made = c.add_stretch.ensures in
    record {
      room = omega (arith, next.parts.1);
      so_far = left_cut _ _ _ _ _ _ c.in-Some.s.now _ _ c.in-Some-first_by.t.now.lo c.loop-s.invariant.so_far c.in-Some.ensures.cases.0 c.max-lo.ensures (omega (arith, next.begins))
          _ made.normal made.ticks c.in-Some-first_by.t.now _ next.parts.0 refl next.begins;
    }

pub add_stretch-requires-in-None-clause-apart : goal.add_stretch-requires-in-None-clause-apart
add_stretch-requires-in-None-clause-apart c =
    left_apart _ _ _ _ _ _ c.in-Some.s.now _ _ (c.in-Some.s.now.hi + 1) c.loop-s.invariant.so_far c.in-Some.ensures.cases.0 c.max-lo.ensures (omega arith)

pub loop-s-preserved : goal.loop-s-preserved
loop-s-preserved c =
    let made = c.add_stretch-in-None.ensures in
    record {
      room = omega (arith, c.in-Some.ensures.cases.1);
      so_far = left_whole _ _ _ _ _ _ c.in-Some.s.now _ _ (c.in-Some.s.now.hi + 1) c.loop-s.invariant.so_far c.in-Some.ensures.cases.0 c.max-lo.ensures (omega arith)
          _ made.normal made.ticks refl c.in-None.ensures.none;
    }
