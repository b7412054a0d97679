-- Where a function is at most a limit.
use Rattle.std.specs.Prelude.{◌≡◌, ℕ, ◌+◌, ◌-◌, ◌<◌, ◌≤◌, ℤ, ◌≤ℤ◌, ◌<ℤ◌, int_le, Bool, ◌&&◌}
use Rattle.tick_set.specs.Ticks.{within}
use Rattle.tick_set.specs.declared.spans.Window.{Window}

-- whether the function is at most the limit at a tick of the window, of whose first tick it is the value at 0
abbrev pub is_low : (ℕ → ℤ) → ℤ → Window → ℕ → Bool
is_low f limit w t = within w.lo w.hi t && int_le (f (t - w.lo)) limit

-- f is at most the limit at `first` and `end`, and above it next to them, if that is in 0 to `last`
pub record AreEnds (f : ℕ → ℤ) (limit : ℤ) (last first end : ℕ) : Type 0 where
  pub ordered : first ≤ end
  pub bound : end ≤ last
  pub low_first : f first ≤ℤ limit
  pub low_end : f end ≤ℤ limit
  pub high_before : (k : ℕ) → k + 1 ≡ first → limit <ℤ f k
  pub high_after : end < last → limit <ℤ f (end + 1)
