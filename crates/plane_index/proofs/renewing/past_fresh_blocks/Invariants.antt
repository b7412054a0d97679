use Rattle.std.proofs.Common.{◌≡◌, ℕ, ◌-◌, ◌<◌, ◌≤◌, true}
use Rattle.plane_index.specs.Index.{fresh_at}
use Rattle.plane_index.proofs.renewing.past_fresh_blocks.Given as goal

abbrev pub invariant-blocks-2 : goal.invariant-blocks-2
invariant-blocks-2 l = record {
  from : l.fn.from ≤ l.place;
  end : l.place ≤ l.fn.end;
  fresh : (k : ℕ) → l.fn.from ≤ k → k < l.place → fresh_at l.fn.fresh k ≡ true;
}

abbrev pub decreases-blocks-2 : goal.decreases-blocks-2
decreases-blocks-2 l = l.fn.end - l.place
