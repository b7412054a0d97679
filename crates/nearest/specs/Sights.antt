-- What is seen of objects in a slice of time.
use Rattle.std.specs.Prelude.{◌≡◌, ℕ, pos, ◌-◌, ◌<◌, ◌≤◌, ◌≤ℤ◌, nat_le, int_le, Bool, true, false, Option, None, Some, IfSome, List, count_by, ⊤}
use Rattle.tick_set.specs.declared.spans.Window.{Window}
use Rattle.motion.specs.Timeline.{Epoch}
use Rattle.nearest.specs.Courses.{index_near, squared_along}
use Rattle.nearest.specs.Order.{separation_after}
use Rattle.nearest.specs.declared.band.Band.{Band}
use Rattle.nearest.specs.declared.course.Course.{Course}
use Rattle.nearest.specs.declared.sight.Sight.{Sight}
use Rattle.nearest.specs.declared.sight.Sight.TheVariants as sights
use Rattle.nearest.specs.declared.squares.Separation.{Separation}

-- the separation tells the square of the distance at each tick of the slice, by the ticks since its first
abbrev pub TellsSquares : List Epoch → List Epoch → Window → Separation → Type 0
TellsSquares from to w s = (t : ℕ) → w.lo ≤ t → t ≤ w.hi → squared_along from to t ≡ Some (separation_after s (t - w.lo))

-- the separation is between the bounds at each tick of the slice
abbrev pub IsInBand : Window → Band → Type 0
IsInBand w band = (t : ℕ) → w.lo ≤ t → t ≤ w.hi
    → (band.least ≤ℤ separation_after band.separation (t - w.lo)) × (separation_after band.separation (t - w.lo) ≤ℤ pos band.most)

pub record IsStraight (from to : List Epoch) (w : Window) (band : Band) : Type 0 where
  pub tells : TellsSquares from to w band.separation
  pub bounds : IsInBand w band

-- what is seen of the object of one timeline from that of another is so
abbrev pub IsSight : List Epoch → List Epoch → Window → Sight → Type 0
IsSight from to w (sights.Straight band) = IsStraight from to w band
IsSight from to w sights.Absent = (t : ℕ) → w.lo ≤ t → t ≤ w.hi → squared_along from to t ≡ None
IsSight from to w sights.Unknown = ⊤

abbrev pub is_straight : Sight → Bool
is_straight (sights.Straight band) = true
is_straight sights.Absent = false
is_straight sights.Unknown = false

-- what is seen of the object of a course is so
abbrev pub IsSeenFrom : List Epoch → Window → Course → Type 0
IsSeenFrom from w c = IsSight from c.timeline.now w c.sight

-- whether the square never passes the bound
abbrev pub is_surely_within : ℕ → Sight → Bool
is_surely_within m (sights.Straight band) = nat_le band.most m
is_surely_within m sights.Absent = false
is_surely_within m sights.Unknown = false

-- whether the square may come within the bound, if there is one
abbrev pub may_come_within : Option ℕ → Sight → Bool
may_come_within None (sights.Straight band) = true
may_come_within (Some m) (sights.Straight band) = int_le band.least (pos m)
may_come_within bound sights.Absent = false
may_come_within bound sights.Unknown = true

-- whether there is a bound that the square never passes
abbrev pub never_passes : Option ℕ → Sight → Bool
never_passes None sight = false
never_passes (Some m) sight = is_surely_within m sight

-- fewer than k of the courses' objects may come within the bound, if there is one
abbrev pub AreFewWithin : ℕ → Option ℕ → List Course → Type 0
AreFewWithin k bound courses = IfSome bound (λ m. count_by (λ c. may_come_within (Some m) c.sight) courses < k)

-- a course but for what is seen of it
pub record CourseBody : Type 0 where
  pub id : ℕ
  pub index : ℕ
  pub epochs : List Epoch

abbrev pub course_body : Course → CourseBody
course_body c = record { id = c.id; index = c.index; epochs = c.timeline.now }

-- the few tell as well as all the courses whose objects are near at the ticks of the slice
abbrev pub AreEnough : List Epoch → ℕ → Window → List Course → List Course → Type 0
AreEnough from k w few courses = (i t : ℕ) → w.lo ≤ t → t ≤ w.hi → index_near from few k few i t ≡ index_near from courses k courses i t
