use Rattle.std.proofs.Common.{◌≡◌, ℕ, ◌||◌, true, length}
use Rattle.tick_set.specs.Runs.{spans_have}
use Rattle.kept_rows.specs.Slots.{has_slot}
use Rattle.kept_rows.proofs.turning.slots_of.Given as goal

-- the slots have the ticks but those of the spans that are left
abbrev pub invariant-spans : goal.invariant-spans
invariant-spans l = (t : ℕ) → spans_have l.spans t ≡ true → (has_slot l.slots t || spans_have l.rest t) ≡ true

abbrev pub decreases-spans : goal.decreases-spans
decreases-spans l = length l.rest
