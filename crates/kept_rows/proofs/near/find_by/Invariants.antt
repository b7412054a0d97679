use Rattle.std.proofs.Common.{◌≡◌, ℕ, ◌/◌, ◌+◌, ◌-◌, ◌<◌, ◌≤◌, true, length}
use Rattle.tick_set.specs.TickList.{has}
use Rattle.kept_rows.specs.Near.{bucket_at, may_have_number}
use Rattle.kept_rows.proofs.near.find_by.Given as goal

-- the numbers of the stretches before this one are there
abbrev pub invariant-stretches : goal.invariant-stretches
invariant-stretches l = record {
  more : (c : ℕ) → has l.fn.found.items c ≡ true → has l.found.items c ≡ true;
  found : (s c : ℕ) → l.asked.ends.lo / l.size ≤ s → s < l.stretch → l.asked.from ≤ c → c < l.asked.to
      → may_have_number l.cells (bucket_at (length l.cells) l.target l.size s) c ≡ true → has l.found.items c ≡ true;
}

abbrev pub decreases-stretches : goal.decreases-stretches
decreases-stretches l = l.last + 1 - l.stretch
