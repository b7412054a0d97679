use Rattle.std.proofs.Common.{◌≡◌, ℕ, ◌<◌, ◌&&◌, ◌||◌, length, take}
use Rattle.tick_set.specs.Runs.{spans_have}
use Rattle.tick_set.specs.Ticks.{within}
use Rattle.nearest.specs.Courses.{index_near}
use Rattle.nearest.specs.Found.{runs_at}
use Rattle.nearest.proofs.slice.add_near.Given as goal

-- the ticks of the first courses are added
abbrev pub invariant-objects : goal.invariant-objects
invariant-objects l = record {
  count : length l.found.items ≡ length l.initial.found.items;
  found : (i t : ℕ) → i < length l.initial.found.items → spans_have (runs_at l.found.items i) t
      ≡ (spans_have (runs_at l.initial.found.items i) t
      || (within l.slice.lo l.slice.hi t && index_near l.aim.target.now l.courses l.aim.k (take l.o-index l.courses) i t));
}
