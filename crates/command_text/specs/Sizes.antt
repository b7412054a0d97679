-- The sizes of a command that have limits, and what stands for a part that passes its limit. Those of names, texts and queries are the parser's.
use Rattle.std.specs.Prelude.{ℕ, ℤ, Bool, nat_le, List, if◌then◌else◌}
use Rattle.motion.specs.declared.legs.TheConstants.{MOST_FIRSTS}
use Rattle.motion.specs.Function.{Function, are_firsts, level}
use Rattle.geometry.specs.declared.limits.TheConstants.{VERTEX_LIMIT}
use Rattle.motion.specs.declared.limits.TheConstants.{ATTRIBUTE_LIMIT}

-- few legs before the last one
abbrev pub are_few_legs : ℕ → Bool
are_few_legs firsts = nat_le firsts MOST_FIRSTS

-- legs that make no function stand for rest
abbrev pub function_of : List (ℤ × ℕ) → ℤ → Function
function_of firsts last = if are_firsts firsts then record { firsts = firsts; last = last } else level

-- a class has few attributes that are written
abbrev pub are_few_attributes : ℕ → Bool
are_few_attributes count = nat_le count ATTRIBUTE_LIMIT

-- a region has few vertices
abbrev pub are_few_vertices : ℕ → Bool
are_few_vertices count = nat_le count VERTEX_LIMIT
