use Rattle.std.proofs.Common.{◌≡◌, ℕ, ◌+◌, ◌-◌, ◌*◌, ◌≤◌, ◌&&◌, All, length}
use Rattle.linear_crossing.specs.Moving.{IsInReach}
use Rattle.tick_set.specs.Ticks.{within}
use Rattle.distance_crossing.specs.NearTicks.{pairs_near}
use Rattle.distance_crossing.proofs.Pairwise.{pair_count}
use Rattle.distance_crossing.proofs.sphere.near_pairs.Given as goal

abbrev pub invariant-loop-p : goal.invariant-loop-p
invariant-loop-p g l = record {
  in_reach : All IsInReach l.rest;
  met : (t : ℕ) → (within l.span.lo l.span.hi t && pairs_near l.fn.r l.rest (t - l.fn.w.lo)) ≡ (within l.fn.w.lo l.fn.w.hi t && pairs_near l.fn.r l.lines (t - l.fn.w.lo));
  cost : l.probes + 60 * pair_count l.rest ≤ l.fn.probes + 60 * pair_count l.lines;
  least : l.fn.probes ≤ l.probes;
}

abbrev pub decreases-loop-p : goal.decreases-loop-p
decreases-loop-p g l = length l.rest
