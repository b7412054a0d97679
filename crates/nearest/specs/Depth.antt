-- How many of some stretches of ticks have a tick, and how many of some ticks have come by then.
use Rattle.std.specs.Prelude.{ℕ, ◌<◌, ◌≤◌, nat_le, Bool, List, count_by, length, slice_index, if◌then◌else◌}
use Rattle.tick_set.specs.Ticks.{within}
use Rattle.tick_set.specs.declared.spans.Span.{Span}

-- how many of the stretches have the tick t
abbrev pub depth_at : List Span → ℕ → ℕ
depth_at stretches t = count_by (λ s. within s.lo s.hi t) stretches

-- one where it is so, and else none
abbrev pub one_if : Bool → ℕ
one_if so = if so then 1 else 0

-- how many of the ticks are at most t
abbrev pub count_to : List ℕ → ℕ → ℕ
count_to ticks t = count_by (λ u. nat_le u t) ticks

-- the first `count` of the ticks are at most t, and the others above it
pub record AreComeBy (ticks : List ℕ) (t count : ℕ) : Type 0 where
  pub within : count ≤ length ticks
  pub come : (k : ℕ) → k < count → slice_index ticks k ≤ t
  pub later : (k : ℕ) → count ≤ k → k < length ticks → t < slice_index ticks k
