use Rattle.std.proofs.Common.{ℕ, ◌+◌, ap, arith}
use Rattle.interval_set.proofs.OverlapLemmas.{met_apart, met_first, met_second}
use Rattle.interval_set.proofs.overlap.meet_of.Goals as goal

pub add_stretch-requires-clause-apart : goal.add_stretch-requires-clause-apart
add_stretch-requires-clause-apart c =
    let both = c.in-Some-Some in
    met_apart _ _ _ _ _ both.s.now both.t.now _ _ _ _ c.loop-s.invariant.so_far both.ensures.cases.0 both.ensures'.cases.0 c.max.ensures (ap (λ (n : ℕ). n + 1) c.min.ensures)

pub loop-s-preserved-then-s-t : goal.loop-s-preserved-then-s-t
loop-s-preserved-then-s-t c =
    let both = c.in-Some-Some in
    let made = c.add_stretch.ensures in
    record {
      room = omega (arith, both.ensures.cases.1);
      so_far = met_first _ _ _ _ _ both.s.now both.t.now _ _ _ _ c.loop-s.invariant.so_far both.ensures.cases.0 both.ensures'.cases.0 c.max.ensures (ap (λ (n : ℕ). n + 1) c.min.ensures)
          _ made.normal made.ticks c.if-s-t.true;
    }

pub loop-s-preserved : goal.loop-s-preserved
loop-s-preserved c =
    let both = c.in-Some-Some in
    let made = c.add_stretch.ensures in
    record {
      room = omega (arith, both.ensures'.cases.1);
      so_far = met_second _ _ _ _ _ both.s.now both.t.now _ _ _ _ c.loop-s.invariant.so_far both.ensures.cases.0 both.ensures'.cases.0 c.max.ensures (ap (λ (n : ℕ). n + 1) c.min.ensures)
          _ made.normal made.ticks c.if-s-t.false;
    }
