-- What a common part of several timelines shows.
use Rattle.std.specs.Prelude.{ℕ, None, Option, option_and_then, IfSome, slice_index_or}
use Rattle.std.specs.Option.{option_copied}
use Rattle.fixed_point.specs.declared.number.Point.{Point}
use Rattle.motion.specs.Pieces.{AreSteadyCells}
use Rattle.courses.specs.Places.{place_of}
use Rattle.courses.specs.declared.parts.Common.{Common}

-- where the object of the timeline of an index is, while the epochs of a common part are in force
abbrev pub place_in : Common → ℕ → ℕ → Option Point
place_in common k t = option_and_then (λ p. place_of p t) (option_copied (slice_index_or common.epochs k None))

-- each of its dynamic attributes moves by one slope in the part
abbrev pub IsSteadyPart : Common → Type 0
IsSteadyPart common =
    (k : ℕ) → IfSome (slice_index_or common.epochs k None) (λ epoch. AreSteadyCells epoch.now common.span.lo common.span.hi)
