-- What a number token stands for in its place. One that is out of the form or range of its place stands for nothing here, and for 0 in the tree.
use Rattle.std.specs.Prelude.{ℕ, ℤ, pos, neg_ℤ, Bool, int_le, Option, Some, None, option_map, option_and_then, List, if◌then◌else◌}
use Rattle.fixed_point.specs.Decimal.{thousandths_of}
use Rattle.fixed_point.specs.declared.number.TheConstants.{READ_LIMIT, SLOPE_LIMIT}
use Rattle.ftl_parser.specs.Number.{whole_of}
use Rattle.geometry.specs.declared.limits.TheConstants.{RADIUS_LIMIT}
use Rattle.tick_set.specs.declared.spans.TheConstants.{LAST_TICK}
use Rattle.motion.specs.declared.limits.TheConstants.{CAPACITY_LIMIT}
use Rattle.command_text.specs.declared.ranges.TheConstants.{NEAREST_LIMIT}

-- where a whole number stands
pub data WholePlace : Type 0 where
  -- the ticks of a command with a query, and of `nearest` and `range`
  Span : WholePlace
  -- the ticks of `tick`, and the length of a leg
  Steps : WholePlace
  -- the most names of a class
  Capacity : WholePlace
  -- how many objects `nearest` looks for
  Nearest : WholePlace

abbrev pub whole_in : WholePlace → List ℕ → Option ℕ
whole_in Span = whole_of 0 LAST_TICK
whole_in Steps = whole_of 1 LAST_TICK
whole_in Capacity = whole_of 1 CAPACITY_LIMIT
whole_in Nearest = whole_of 1 NEAREST_LIMIT

-- the error of `must` and `may`, which has no sign
abbrev pub radius_in : List ℕ → Option ℤ
radius_in = thousandths_of RADIUS_LIMIT

-- where a number with a sign or none stands
pub data SignedPlace : Type 0 where
  -- a coordinate, a value of an attribute, a bound of `range`
  Value : SignedPlace
  -- thousandths a tick
  Rate : SignedPlace
  -- the width of a strip of `index`: at least 0.001
  Width : SignedPlace

abbrev pub negated : Bool → Option ℤ → Option ℤ
negated minus size = if minus then option_map neg_ℤ size else size

abbrev pub signed_in : SignedPlace → Bool → List ℕ → Option ℤ
signed_in Value minus text = negated minus (thousandths_of READ_LIMIT text)
signed_in Rate minus text = negated minus (thousandths_of SLOPE_LIMIT text)
signed_in Width minus text =
    option_and_then (λ n. if int_le (pos 1) n then Some n else None) (negated minus (thousandths_of READ_LIMIT text))
