-- The ticks that are found, object by object.
use Rattle.std.specs.Prelude.{◌≡◌, ℕ, ◌<◌, nat_le, nat_lt, true, ◌&&◌, ◌||◌, List, [], length, slice_index_or, All}
use Rattle.tick_set.specs.Runs.{spans_have}
use Rattle.tick_set.specs.declared.spans.Span.{Span}
use Rattle.tick_set.specs.declared.spans.Window.{Window}
use Rattle.motion.specs.Timeline.{Epoch}
use Rattle.nearest.specs.Courses.{HaveAscendingIndexes, index_near}
use Rattle.nearest.specs.Sights.{IsSeenFrom}
use Rattle.nearest.specs.declared.course.Course.{Course}

abbrev pub runs_at : List (List Span) → ℕ → List Span
runs_at found i = slice_index_or found i []

-- all that is found is before a tick
abbrev pub AreBefore : ℕ → List (List Span) → Type 0
AreBefore at found = (i t : ℕ) → i < length found → spans_have (runs_at found i) t ≡ true → t < at

-- of each object those of the ticks from `lo` on and before `until` are added at which it is near
abbrev pub HaveMore : List Epoch → List Course → ℕ → ℕ → ℕ → List (List Span) → List (List Span) → Type 0
HaveMore from courses k lo until old new = (i t : ℕ) → i < length old → spans_have (runs_at new i) t
    ≡ (spans_have (runs_at old i) t || (nat_le lo t && nat_lt t until && index_near from courses k courses i t))

-- the courses are seen as they are in the slice and have their places in order, and what is found is before it
pub record FitSlice (from : List Epoch) (slice : Window) (courses : List Course) (found : List (List Span)) : Type 0 where
  pub seen : All (IsSeenFrom from slice) courses
  pub ascending : HaveAscendingIndexes 0 (length found) courses
  pub before : AreBefore slice.lo found
