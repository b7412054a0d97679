-- Common parts of timelines, and runs that are gathered part by part.
use Rattle.std.specs.Prelude.{◌≡◌, ℕ, ◌-◌, ◌≤◌, Some, List}
use Rattle.linear_crossing.specs.Moving.{position_after}
use Rattle.linear_crossing.specs.declared.quad.Line.{Line}
use Rattle.motion.specs.Timeline.{Epoch}
use Rattle.courses.specs.Places.{place_at}
use Rattle.tick_set.specs.declared.spans.Span.{Span}

-- the object of a timeline moves along a line throughout a span; the line is by the ticks since the span's first
abbrev pub MovesAlong : List Epoch → Span → Line → Type 0
MovesAlong epochs span l = (t : ℕ) → span.lo ≤ t → t ≤ span.hi → place_at epochs t ≡ Some (position_after l (t - span.lo))
