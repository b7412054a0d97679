-- The ticks that formulas see.
use Rattle.std.specs.Prelude.{ℕ, ◌+◌, ◌≤◌, min, Option, None, Some}
use Rattle.interpreting.specs.declared.value_run.ValueRun.{ValueRun}

-- the last tick that a formula of this reach sees from a tick t, where e is the last that counts
abbrev pub last_seen : Option ℕ → ℕ → ℕ → ℕ
last_seen None t e = e
last_seen (Some n) t e = min (t + n) e

-- a run lies in the ticks of lo to hi
abbrev pub IsInWindow : ℕ → ℕ → ValueRun → Type 0
IsInWindow lo hi run = (lo ≤ run.span.lo) × (run.span.hi ≤ hi)
