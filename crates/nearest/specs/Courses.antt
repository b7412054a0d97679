-- Objects of a class and how they move, as seen from the object that is asked for.
use Rattle.std.specs.Prelude.{◌≡◌, ℕ, ℤ, ◌+◌, ◌<◌, ◌≤◌, ◌==◌, nat_lt, Bool, ◌&&◌, Option, is_some, List, [], ◌∷◌, count_by, ⊤}
use Rattle.std.specs.List.{list_any}
use Rattle.motion.specs.Timeline.{Epoch, state_at}
use Rattle.courses.specs.Places.{place_at}
use Rattle.courses.specs.declared.parts.Common.{Common}
use Rattle.courses.specs.CommonParts.{place_in}
use Rattle.history.specs.History.{cells_at}
use Rattle.object_store.specs.Contents.{Contents, history_of}
use Rattle.nearness.specs.Nearest.{squared_between, stands_before}
use Rattle.nearest.specs.declared.course.Course.{Course}

-- the square of the distance of two objects with these timelines at a tick, None where one of them has no place
abbrev pub squared_along : List Epoch → List Epoch → ℕ → Option ℤ
squared_along from to t = squared_between (place_at from t) (place_at to t)

-- whether one object stands before another at a tick, as seen from an object with the timeline `from`
abbrev pub goes_before : List Epoch → Course → Course → ℕ → Bool
goes_before from p o t = stands_before (squared_along from p.timeline.now t) p.id (squared_along from o.timeline.now t) o.id

-- how many of these objects stand before another
abbrev pub rank_along : List Epoch → List Course → Course → ℕ → ℕ
rank_along from courses o t = count_by (λ p. goes_before from p o t) courses

abbrev pub is_near_along : List Epoch → List Course → ℕ → Course → ℕ → Bool
is_near_along from courses k o t = is_some (squared_along from o.timeline.now t) && nat_lt (rank_along from courses o t) k

-- whether the object of an index is near, if it is among `some` of these
abbrev pub index_near : List Epoch → List Course → ℕ → List Course → ℕ → ℕ → Bool
index_near from courses k some i t = list_any (λ c. (c.index == i) && is_near_along from courses k c t) some

-- the timeline of a course is that of its object in the store
abbrev pub IsOfStore : Contents → Course → Type 0
IsOfStore s c = (t : ℕ) → cells_at (history_of s) c.id t ≡ state_at c.timeline.now t

-- ---- indexes

-- the courses have the numbers from `first` on as their indexes
abbrev pub AreNumbered : ℕ → List Course → Type 0
AreNumbered first [] = ⊤
AreNumbered first (c ∷ courses) = (c.index ≡ first) × AreNumbered (first + 1) courses

-- their indexes ascend, from `least` on and below n
abbrev pub HaveAscendingIndexes : ℕ → ℕ → List Course → Type 0
HaveAscendingIndexes least n [] = ⊤
HaveAscendingIndexes least n (c ∷ courses) = (least ≤ c.index) × ((c.index < n) × HaveAscendingIndexes (c.index + 1) n courses)

-- ---- common parts

-- the square of its distance from the object of the first timeline
abbrev pub squared_in : Common → ℕ → ℕ → Option ℤ
squared_in common k t = squared_between (place_in common 0 t) (place_in common k t)
