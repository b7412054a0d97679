-- The common parts of several timelines: stretches of ticks in which each of them is steady.
use Rattle.std.specs.Prelude.{◌≡◌, ℕ, ◌+◌, ◌<◌, ◌≤◌, ◌==◌, nat_le, true, false, ◌&&◌, ◌||◌, All, Some, is_some, List, [], ◌∷◌, length, map, slice_index, slice_index_or, sum_by, count_by, if◌then◌else◌}
use Rattle.std.specs.List.{list_any}
use Rattle.std.specs.Borrow.{Bor}
use Rattle.tick_set.specs.Ticks.{between}
use Rattle.tick_set.specs.declared.spans.Span.{Span}
use Rattle.motion.specs.declared.asked.Asked.{Asked}
use Rattle.motion.specs.declared.asked.Asked.TheVariants as which
use Rattle.motion.specs.Timeline.{AreBegunUpTo, Epoch, epoch_at}
use Rattle.motion.specs.Pieces.{AreSteadyFor, is_cut_for}
use Rattle.courses.specs.declared.parts.TheConstants.{MOST_TIMELINES}

-- the epochs of each timeline
abbrev pub epochs_of_each : List (Bor (List Epoch)) → List (List Epoch)
epochs_of_each timelines = map (λ timeline. timeline.now) timelines

-- which attributes are asked of the timeline of an index, counted from 0: all where nothing is said of it
abbrev pub asked_at : List Asked → ℕ → Asked
asked_at asked k = slice_index_or asked k which.All

-- the timelines, each beside what is asked of it
abbrev pub asked_each : List Asked → List (List Epoch) → List (Asked × List Epoch)
asked_each asked [] = []
asked_each [] (epochs ∷ timelines) = (which.All, epochs) ∷ asked_each [] timelines
asked_each (first ∷ asked) (epochs ∷ timelines) = (first, epochs) ∷ asked_each asked timelines

-- so many epochs of each timeline begin by tick t
abbrev pub AreBegun : List (List Epoch) → ℕ → List ℕ → Type 0
AreBegun timelines t counts = (k : ℕ) → k < length timelines → AreBegunUpTo (slice_index_or timelines k []) t (slice_index counts k)

-- From tick lo to hi a timeline has one epoch in force, or none yet. Each asked dynamic attribute of it moves by one
-- slope, and no tick past lo is a cut for these.
pub record IsSteadyFrom (asked : Asked) (epochs : List Epoch) (lo hi : ℕ) : Type 0 where
  pub in_force : (t : ℕ) → lo ≤ t → t ≤ hi → epoch_at epochs t ≡ epoch_at epochs lo
  pub linear : (p : Epoch) → epoch_at epochs lo ≡ Some p → AreSteadyFor asked p lo hi
  pub whole : (t : ℕ) → lo < t → t ≤ hi → is_cut_for asked epochs t ≡ false

-- a part of one timeline begins at tick `at`, and ends with tick `end`: before the next cut, or with the last tick
pub record IsTimelinePart (asked : Asked) (epochs : List Epoch) (at last end : ℕ) : Type 0 where
  pub past : at ≤ end
  pub within : end ≤ last
  pub steady : IsSteadyFrom asked epochs at end
  pub ends : (end == last || is_cut_for asked epochs (end + 1)) ≡ true

-- A part begins at tick `at`, and ends before the next tick at which one of the timelines is cut for what is asked of it, or with
-- the last tick.
pub record IsCommonFor (timelines : List (Asked × List Epoch)) (at last : ℕ) (span : Span) : Type 0 where
  pub begins : span.lo ≡ at
  pub within : span.hi ≤ last
  pub steady : All (λ p. IsSteadyFrom p.0 p.1 at span.hi) timelines
  pub ends : (span.hi == last || list_any (λ p. is_cut_for p.0 p.1 (span.hi + 1)) timelines) ≡ true

-- the same where all attributes are asked of each
abbrev pub IsCommon : List (List Epoch) → ℕ → ℕ → Span → Type 0
IsCommon timelines at last span = IsCommonFor (asked_each [] timelines) at last span

-- how many ticks past `at` and up to `last` cut the timeline for the asked attributes
unfoldable pub cut_count_for : Asked → List Epoch → ℕ → ℕ → ℕ
cut_count_for asked epochs at last = count_by (is_cut_for asked epochs) (between (at + 1) (last + 1))

-- how many pieces the ticks from `at` to `last` have: one in force at `at`, and one from each later cut on
abbrev pub piece_count_for : Asked → List Epoch → ℕ → ℕ → ℕ
piece_count_for asked epochs at last =
    (if nat_le at last && is_some (epoch_at epochs at) then 1 else 0) + cut_count_for asked epochs at last

abbrev pub piece_count : List Epoch → ℕ → ℕ → ℕ
piece_count epochs at last = piece_count_for which.All epochs at last

-- how many pieces several timelines have there, for what is asked of each
abbrev pub pieces_for : List (Asked × List Epoch) → ℕ → ℕ → ℕ
pieces_for timelines at last = sum_by (λ p. piece_count_for p.0 p.1 at last) timelines

abbrev pub pieces_of_all : List (List Epoch) → ℕ → ℕ → ℕ
pieces_of_all timelines at last = sum_by (λ epochs. piece_count epochs at last) timelines

-- no more timelines than have a common part
abbrev pub AreFewTimelines : List (Bor (List Epoch)) → Type 0
AreFewTimelines timelines = length timelines ≤ MOST_TIMELINES
