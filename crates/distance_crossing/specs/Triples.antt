-- Up to three runs of ticks.
use Rattle.std.specs.Prelude.{ℕ, Bool, List, ◌++◌, IsNone, option_to_list}
use Rattle.tick_set.specs.Runs.{IsRuns}
use Rattle.tick_set.specs.declared.spans.Span.{Span}
use Rattle.distance_crossing.specs.declared.comparison.Triple.{Triple}

-- the spans that are there, in order
abbrev pub triple_spans : Triple → List Span
triple_spans x = option_to_list x.first ++ option_to_list x.second ++ option_to_list x.third

-- an empty place comes after those that are taken
pub record IsPacked (x : Triple) : Type 0 where
  pub second : IsNone x.first → IsNone x.second
  pub third : IsNone x.second → IsNone x.third

-- the triple holds the maximal runs of the set, and the empty places come last
pub record IsTripleOf (member : ℕ → Bool) (x : Triple) : Type 0 where
  pub runs : IsRuns member (triple_spans x)
  pub packed : IsPacked x
