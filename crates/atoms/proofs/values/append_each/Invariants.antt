use Rattle.std.proofs.Common.{◌≡◌, ℕ, ◌≤◌, Option, Some}
use Rattle.linear_crossing.specs.Zones.{line_at}
use Rattle.formula.specs.declared.value.Value.{Value}
use Rattle.formula.specs.declared.value.Value.TheVariants as values
use Rattle.atoms.specs.ValueRuns.{AreMaximalRuns}
use Rattle.atoms.proofs.values.append_each.Given as goal

-- the runs of the ticks before
abbrev pub invariant-loop-tick : goal.invariant-loop-tick
invariant-loop-tick l = (value : ℕ → Option Value) (from : ℕ) → from ≤ l.span.lo → AreMaximalRuns value from l.span.lo l.initial.runs.items
    → ((t : ℕ) → l.span.lo ≤ t → t ≤ l.span.hi → value t ≡ Some (values.Num (line_at l.trend.rise l.trend.start l.span.lo t)))
    → AreMaximalRuns value from l.tick l.runs.items
