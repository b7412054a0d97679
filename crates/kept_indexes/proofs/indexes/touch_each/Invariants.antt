use Rattle.std.proofs.Common.{◌≡◌, ℕ, ◌-◌, ◌<◌, ◌≤◌, get_or, length}
use Rattle.kept_indexes.specs.declared.indexes.Kept.{Kept}
use Rattle.kept_indexes.specs.Kept.{IsTouchedKept}
use Rattle.kept_indexes.proofs.indexes.touch_each.Given as goal

-- the object is stale in those so far, and the others are as before
abbrev pub invariant-indexes : goal.invariant-indexes
invariant-indexes l = record {
  count : length l.kept ≡ length l.fn.kept;
  touched : (k : ℕ) (d : Kept) → k < l.place → IsTouchedKept l.fn.id (get_or l.fn.kept k d) (get_or l.kept k d);
  others : (k : ℕ) (d : Kept) → l.place ≤ k → get_or l.kept k d ≡ get_or l.fn.kept k d;
}

abbrev pub decreases-indexes : goal.decreases-indexes
decreases-indexes l = length l.kept - l.place
