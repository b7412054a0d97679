-- The runs of a term's value as far as a formula tells them apart.
use Rattle.std.specs.Prelude.{◌≡◌, ℕ, ◌-◌, ◌<◌, ◌≤◌, Bool, true, All, Option, Some, is_some, List, length}
use Rattle.formula.specs.declared.value.Value.{Value}
use Rattle.interpreting.specs.declared.value_run.ValueRun.{ValueRun}
use Rattle.interpreting.specs.ValueRuns.{value_runs_have}

-- The ticks of a run lie in those from `from` up to `until`, without `until`, and there is a value at each of them. The
-- run's is that of the first tick, and of each tick where the formula names it.
pub record IsStretch (named : Bool) (value : ℕ → Option Value) (from until : ℕ) (run : ValueRun) : Type 0 where
  pub begins : from ≤ run.span.lo
  pub ends : run.span.hi < until
  pub first : value run.span.lo ≡ Some run.value
  pub has : (t : ℕ) → run.span.lo ≤ t → t ≤ run.span.hi → is_some (value t) ≡ true
  pub own : named ≡ true → (t : ℕ) → run.span.lo ≤ t → t ≤ run.span.hi → value t ≡ Some run.value

-- those of all ticks from `from` up to `until`, without `until`, that have a value
pub record AreStretches (named : Bool) (value : ℕ → Option Value) (from until : ℕ) (runs : List ValueRun) : Type 0 where
  pub each : All (IsStretch named value from until) runs
  pub all : (t : ℕ) → from ≤ t → t < until → is_some (value t) ≡ true → value_runs_have runs t ≡ true
  pub few : length runs ≤ until - from
