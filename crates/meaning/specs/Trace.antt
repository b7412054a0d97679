-- All that a formula sees of a history: what the object of each variable has at each tick.
use Rattle.std.specs.Prelude.{ℕ, Option, List}
use Rattle.motion.specs.declared.cell.Cell.{Cell}
use Rattle.history.specs.History.{History, cells_at}

-- by variable and tick; None where the object is absent
abbrev pub Trace : Type 0
Trace = ℕ → ℕ → Option (List Cell)

-- where a binding gives each variable the number of an object
abbrev pub trace_of : History → (ℕ → ℕ) → ℕ → ℕ → Option (List Cell)
trace_of h b v t = cells_at h (b v) t
