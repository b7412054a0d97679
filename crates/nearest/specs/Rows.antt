-- The rows of the nearest objects, as a contract sees them.
use Rattle.std.specs.Prelude.{ℕ, Bool, List, [], ◌∷◌, map}
use Rattle.std.specs.List.{filter}
use Rattle.tick_set.specs.Runs.{pairs, runs_of}
use Rattle.tick_set.specs.Ticks.{listed}
use Rattle.tick_set.specs.declared.spans.Window.{Window}
use Rattle.meaning.specs.Answer.{Row, has_ticks}
use Rattle.motion.specs.Timeline.{Epoch}
use Rattle.nearest.specs.Courses.{is_near_along}
use Rattle.nearest.specs.declared.course.Course.{Course}
use Rattle.nearest.specs.declared.rows.NearRow.{NearRow}

-- the object of a row, and the maximal runs of its ticks
abbrev pub told_near_row : NearRow → Row
told_near_row row = record { key = row.id ∷ []; runs = pairs row.ticks }

abbrev pub told_near : List NearRow → List Row
told_near rows = map told_near_row rows

-- a row, if it has a tick
abbrev pub if_some : Row → List Row
if_some row = filter (λ r. has_ticks r.runs) (row ∷ [])

-- the row of an object, by the ticks of the window at which it passes the test
abbrev pub object_row : ℕ → (ℕ → Bool) → Window → Row
object_row id test w = record { key = id ∷ []; runs = runs_of (listed test w.lo w.hi) }

-- the rows of some of the courses, by their ranks among all of them
abbrev pub rows_along : List Epoch → List Course → ℕ → Window → List Course → List Row
rows_along from courses k w some =
    filter (λ r. has_ticks r.runs) (map (λ c. object_row c.id (is_near_along from courses k c) w) some)
