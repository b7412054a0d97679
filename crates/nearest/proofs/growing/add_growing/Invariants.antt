use Rattle.std.proofs.Common.{◌≡◌, ◌+◌, ◌-◌, ◌≤◌, length}
use Rattle.nearest.specs.Found.{AreBefore, HaveMore}
use Rattle.nearest.proofs.growing.add_growing.Given as goal

-- what is found up to the tick is added
abbrev pub invariant-growing : goal.invariant-growing
invariant-growing l = record {
  begun : l.w.lo ≤ l.at;
  until : l.at ≤ l.w.hi + 1;
  count : length l.found.items ≡ length l.initial.found.items;
  before : AreBefore l.at l.found.items;
  added : HaveMore l.aim.target.now l.courses l.aim.k l.w.lo l.at l.initial.found.items l.found.items;
}

abbrev pub decreases-growing : goal.decreases-growing
decreases-growing l = l.w.hi + 1 - l.at
