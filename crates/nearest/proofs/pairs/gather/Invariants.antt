use Rattle.std.proofs.Common.{◌≡◌, ℕ, ◌+◌, ◌≤◌, true, take}
use Rattle.std.specs.Prelude.{count_by}
use Rattle.tick_set.specs.Ticks.{within}
use Rattle.nearest.specs.Courses.{goes_before}
use Rattle.nearest.specs.Depth.{depth_at}
use Rattle.nearest.proofs.pairs.gather.Given as goal

-- those that stand before the object throughout and the stretches tell how many of the first courses do so
abbrev pub invariant-courses : goal.invariant-courses
invariant-courses l = record {
  few : l.throughout ≤ l.aim.k;
  counted : (t : ℕ) → within l.w.lo l.w.hi t ≡ true
      → l.throughout + depth_at l.stretches.items t ≡ count_by (λ p. goes_before l.aim.target.now p l.o t) (take l.p-index l.rivals.courses.now);
}
