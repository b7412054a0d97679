use Rattle.std.proofs.Common.{◌≡◌, ℕ, ◌+◌, ◌-◌, ◌≤◌, ◌&&◌, nat_le, nat_lt}
use Rattle.nearest.specs.Courses.{goes_before}
use Rattle.nearest.specs.Depth.{depth_at, one_if}
use Rattle.nearest.proofs.pairs.add_by_parts.Given as goal

-- the stretches before `at` are there
abbrev pub invariant-joining : goal.invariant-joining
invariant-joining l = record {
  from : l.w.lo ≤ l.at;
  until : l.at ≤ l.w.hi + 1;
  depths : (t : ℕ) → depth_at l.stretches.items t
      ≡ depth_at l.initial.stretches.items t + one_if (nat_le l.w.lo t && nat_lt t l.at && goes_before l.target l.p l.o t);
}

abbrev pub decreases-joining : goal.decreases-joining
decreases-joining l = l.w.hi + 1 - l.at
