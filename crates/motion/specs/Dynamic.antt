-- A dynamic attribute, by its three sub-attributes as in MOST, and what it implies of later ticks.
use Rattle.std.specs.Prelude.{ℕ, ℤ, Bool, ◌+◌, ◌*◌, ◌+ℤ◌, ◌-◌, ◌≤◌, unsigned_abs}
use Rattle.fixed_point.specs.declared.number.TheConstants.{READ_LIMIT, SLOPE_LIMIT}
use Rattle.tick_set.specs.declared.spans.TheConstants.{LAST_TICK}
use Rattle.motion.specs.Function.{Function, rise, rest, slope, leg_ends}

-- the value in thousandths at the tick of the last update, that tick, and how the value moves from it on
pub record Dynamic : Type 0 where
  pub value : ℤ
  pub updatetime : ℕ
  pub function : Function

-- The three functions of a tick give before the update what they give at it, since `-` ends at 0.

-- the implied value at a tick from the update on, in thousandths
abbrev pub value_at : Dynamic → ℕ → ℤ
value_at v t = v.value +ℤ rise v.function (t - v.updatetime)

-- the slope in force at a tick from the update on, in thousandths per tick
abbrev pub slope_at : Dynamic → ℕ → ℤ
slope_at v t = slope v.function (t - v.updatetime)

-- whether a leg ends at a tick past the update, so that the next leg is in force from then on
abbrev pub turns_at : Dynamic → ℕ → Bool
turns_at v t = leg_ends v.function.firsts (t - v.updatetime)

-- The three ways to write it at tick s. A value alone keeps what is left of the legs.
abbrev pub moved : ℕ → Dynamic → ℤ → Dynamic
moved s v n = record { value = n; updatetime = s; function = rest v.function (s - v.updatetime) }

-- Legs alone begin at the value that is implied.
abbrev pub turned : ℕ → Dynamic → Function → Dynamic
turned s v f = record { value = value_at v s; updatetime = s; function = f }

-- A value and legs set both.
abbrev pub begun : ℕ → ℤ → Function → Dynamic
begun s n f = record { value = n; updatetime = s; function = f }

-- What updates can lead to: a given value is within 10^12 thousandths, and one that legs began at has moved by at most 10^6 a tick.
pub record IsReachableValue (value : ℤ) (updatetime : ℕ) : Type 0 where
  pub tick : updatetime ≤ LAST_TICK
  pub near : unsigned_abs value ≤ READ_LIMIT + SLOPE_LIMIT * updatetime
