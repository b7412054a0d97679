use Rattle.std.proofs.Common.{◌≡◌, ℕ, ◌+◌, ◌-◌, ◌/◌, ◌<◌, ◌≤◌, true}
use Rattle.kept_rows.specs.Slots.{has_slot}
use Rattle.kept_rows.proofs.slots.Slots.with_span.Given as goal

-- the slots up to this one are there, beside those that were
abbrev pub invariant-slots : goal.invariant-slots
invariant-slots l = record {
  most : l.slot ≤ l.last + 1;
  kept : (t : ℕ) → has_slot l.fn.self t ≡ true → has_slot l.slots t ≡ true;
  done : (t : ℕ) → l.first ≤ t / 64 → t / 64 < l.slot → has_slot l.slots t ≡ true;
}

abbrev pub decreases-slots : goal.decreases-slots
decreases-slots l = l.last + 1 - l.slot
