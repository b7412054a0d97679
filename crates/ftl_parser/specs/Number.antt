-- What a number token stands for in its place. One that is out of the form or range of its place stands for 0.
use Rattle.std.specs.Prelude.{ℕ, ℤ, pos, Bool, ◌&&◌, nat_le, Option, Some, None, List, option_and_then, unwrap_or, is_some, if◌then◌else◌}
use Rattle.std.specs.Char.{is_ascii_digit}
use Rattle.std.specs.List.{list_all}
use Rattle.std.specs.Str.Parse.{digits_value}
use Rattle.fixed_point.specs.Decimal.{thousandths_of}
use Rattle.fixed_point.specs.declared.number.TheConstants.{READ_LIMIT}
use Rattle.geometry.specs.declared.limits.TheConstants.{RADIUS_LIMIT}
use Rattle.tick_set.specs.declared.spans.TheConstants.{LAST_TICK}
use Rattle.formula_shape.specs.declared.limits.TheConstants.{TIMES_LIMIT}

-- a whole number of at most `most`: digits alone
abbrev pub up_to : ℕ → List ℕ → Option ℕ
up_to most text = if list_all is_ascii_digit text && nat_le (digits_value 10 text) most then Some (digits_value 10 text) else None

-- a whole number from `least` to `most`
abbrev pub whole_of : ℕ → ℕ → List ℕ → Option ℕ
whole_of least most text = option_and_then (λ n. if nat_le least n then Some n else None) (up_to most text)

-- where a number stands in a query
pub data Place : Type 0 where
  -- the number of a bounded form
  Ticks : Place
  -- before `*`
  Times : Place
  -- any other factor, and the number of a DIST
  Literal : Place
  -- after WITHIN_SPHERE and its bracket
  Radius : Place

-- whether a number is in the form and range of its place
abbrev pub is_number_fit : Place → List ℕ → Bool
is_number_fit Ticks text = is_some (whole_of 0 LAST_TICK text)
is_number_fit Times text = is_some (whole_of 0 TIMES_LIMIT text)
is_number_fit Literal text = is_some (thousandths_of READ_LIMIT text)
is_number_fit Radius text = is_some (thousandths_of RADIUS_LIMIT text)

abbrev pub ticks : List ℕ → ℕ
ticks text = unwrap_or (whole_of 0 LAST_TICK text) 0

abbrev pub times : List ℕ → ℕ
times text = unwrap_or (whole_of 0 TIMES_LIMIT text) 0

abbrev pub literal : List ℕ → ℤ
literal text = unwrap_or (thousandths_of READ_LIMIT text) (pos 0)

abbrev pub radius_of : List ℕ → ℤ
radius_of text = unwrap_or (thousandths_of RADIUS_LIMIT text) (pos 0)
