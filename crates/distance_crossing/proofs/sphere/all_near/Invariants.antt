use Rattle.std.proofs.Common.{◌≡◌, ℕ, ◌+◌, ◌-◌, ◌*◌, ◌≤◌, ◌&&◌, All, length}
use Rattle.linear_crossing.specs.Moving.{IsInReach}
use Rattle.tick_set.specs.Ticks.{within}
use Rattle.distance_crossing.specs.NearTicks.{all_near}
use Rattle.distance_crossing.proofs.sphere.all_near.Given as goal

abbrev pub invariant-loop-q : goal.invariant-loop-q
invariant-loop-q g l = record {
  in_reach : All IsInReach l.rest;
  met : (t : ℕ) → (within l.span.lo l.span.hi t && all_near l.fn.r l.p l.rest (t - l.fn.w.lo)) ≡ (within l.fn.w.lo l.fn.w.hi t && all_near l.fn.r l.p l.others (t - l.fn.w.lo));
  cost : l.probes + 60 * length l.rest ≤ l.fn.probes + 60 * length l.others;
  least : l.fn.probes ≤ l.probes;
}

abbrev pub decreases-loop-q : goal.decreases-loop-q
decreases-loop-q g l = length l.rest
