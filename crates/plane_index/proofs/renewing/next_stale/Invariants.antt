use Rattle.std.proofs.Common.{◌≡◌, ℕ, ◌-◌, ◌<◌, ◌≤◌, true}
use Rattle.plane_index.specs.Index.{fresh_at}
use Rattle.plane_index.proofs.renewing.next_stale.Given as goal

abbrev pub invariant-places : goal.invariant-places
invariant-places l = record {
  from : l.fn.from ≤ l.place;
  end : l.place ≤ l.fn.end;
  fresh : (k : ℕ) → l.fn.from ≤ k → k < l.place → fresh_at l.fn.fresh k ≡ true;
}

abbrev pub decreases-places : goal.decreases-places
decreases-places l = l.fn.end - l.place
