-- Which windows a query may have.
use Rattle.std.specs.Prelude.{ℕ, ◌-◌, ◌≤◌}
use Rattle.tick_set.specs.declared.spans.Window.{Window}
use Rattle.tick_set.specs.declared.spans.TheConstants.{LAST_TICK, SPAN_LIMIT}
use Rattle.tick_set.specs.declared.spans.Span.{Span}

-- a window that isn't too long for a query
abbrev pub IsQueryWindow : Window → Type 0
IsQueryWindow w = w.hi - w.lo ≤ SPAN_LIMIT

-- ticks that aren't too many for a query
abbrev pub IsQuerySpan : Span → Type 0
IsQuerySpan s = s.hi - s.lo ≤ SPAN_LIMIT

-- a query may have a window from the one tick to the other
pub record AreQueryEnds (lo hi : ℕ) : Type 0 where
  pub window : lo ≤ hi
  pub last : hi ≤ LAST_TICK
  pub length : hi - lo ≤ SPAN_LIMIT
