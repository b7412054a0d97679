use Rattle.std.proofs.Common.{◌≡◌, ℕ, ◌-◌, ◌≤◌, [], length}
use Rattle.nearest.specs.Found.{runs_at}
use Rattle.nearest.proofs.found.none_found.Given as goal

abbrev pub invariant-objects : goal.invariant-objects
invariant-objects l = record {
  few : length l.found.items ≤ l.count;
  none : (i : ℕ) → runs_at l.found.items i ≡ [];
}

abbrev pub decreases-objects : goal.decreases-objects
decreases-objects l = l.count - length l.found.items
