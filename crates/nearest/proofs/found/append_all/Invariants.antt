use Rattle.std.proofs.Common.{◌≡◌, ℕ, ◌||◌, take}
use Rattle.tick_set.specs.Runs.{spans_have}
use Rattle.nearest.proofs.found.append_all.Given as goal

-- the first runs are added
abbrev pub invariant-spans : goal.invariant-spans
invariant-spans l = (t : ℕ) → spans_have l.runs t ≡ (spans_have l.initial.runs t || spans_have (take l.span-index l.more) t)
