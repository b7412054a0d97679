-- The runs of a value that changes with the tick.
use Rattle.std.specs.Prelude.{◌≡◌, ℕ, ◌-◌, ◌<◌, ◌≤◌, Bool, true, All, Option, Some, is_some, List, length}
use Rattle.std.specs.List.{list_any}
use Rattle.tick_set.specs.Ticks.{within}
use Rattle.formula.specs.declared.value.Value.{Value}
use Rattle.interpreting.specs.declared.value_run.ValueRun.{ValueRun}

-- whether a tick is in a run
abbrev pub run_has : ℕ → ValueRun → Bool
run_has t run = within run.span.lo run.span.hi t

-- whether it is in one of the runs
abbrev pub value_runs_have : List ValueRun → ℕ → Bool
value_runs_have runs t = list_any (run_has t) runs

-- the run lies in the ticks from `from` up to `until`, without `until`, and each tick of it has its value
pub record IsRunOf (value : ℕ → Option Value) (from until : ℕ) (run : ValueRun) : Type 0 where
  pub begins : from ≤ run.span.lo
  pub ends : run.span.hi < until
  pub has : (t : ℕ) → run.span.lo ≤ t → t ≤ run.span.hi → value t ≡ Some run.value

-- Runs of the values that the ticks from `from` up to `until`, without `until`, have. A tick without a value is in none.
pub record AreValueRuns (value : ℕ → Option Value) (from until : ℕ) (runs : List ValueRun) : Type 0 where
  pub each : All (IsRunOf value from until) runs
  pub all : (t : ℕ) → from ≤ t → t < until → is_some (value t) ≡ true → value_runs_have runs t ≡ true
  pub few : length runs ≤ until - from
