-- The function of a dynamic attribute: linear legs, one after another. It is 0 at 0.
use Rattle.std.specs.Prelude.{◌≡◌, ℕ, ℤ, pos, ◌+ℤ◌, ◌*ℤ◌, ◌-◌, ◌<◌, ◌==◌, nat_lt, nat_le, Bool, true, false, ◌&&◌, ◌||◌, List, [], ◌∷◌, length, if◌then◌else◌}
use Rattle.std.specs.List.{list_all}
use Rattle.motion.specs.declared.legs.TheConstants.{MOST_FIRSTS, LONGEST_LEG}

-- The legs that end, each a slope in thousandths per tick and a length in ticks, and the slope of the last leg, which has no end.
pub record Function : Type 0 where
  pub firsts : List (ℤ × ℕ)
  pub last : ℤ

-- a leg that ends has a length of 1 to 10^9 ticks
abbrev pub is_length_of : ℕ → Bool
is_length_of n = nat_le 1 n && nat_le n LONGEST_LEG

-- at most seven legs, each of such a length
abbrev pub are_firsts : List (ℤ × ℕ) → Bool
are_firsts firsts = nat_le (length firsts) MOST_FIRSTS && list_all (λ leg. is_length_of leg.1) firsts

-- the function of a value that rests
abbrev pub level : Function
level = record { firsts = []; last = pos 0 }

-- how far such legs rise in d ticks
abbrev pub legs_rise : List (ℤ × ℕ) → ℤ → ℕ → ℤ
legs_rise [] last d = last *ℤ pos d
legs_rise (leg ∷ legs) last d =
    if nat_le d leg.1 then leg.0 *ℤ pos d else (leg.0 *ℤ pos leg.1 +ℤ legs_rise legs last (d - leg.1))

-- the legs that end later than d ticks after the first began, the one in force shortened to what is left of it
abbrev pub legs_rest : List (ℤ × ℕ) → ℕ → List (ℤ × ℕ)
legs_rest [] d = []
legs_rest (leg ∷ legs) d = if nat_lt d leg.1 then ((leg.0, leg.1 - d) ∷ legs) else legs_rest legs (d - leg.1)

-- the slope that such legs begin with
abbrev pub legs_slope : List (ℤ × ℕ) → ℤ → ℤ
legs_slope [] last = last
legs_slope (leg ∷ legs) last = leg.0

-- of legs of which the first has run for some ticks: what is left of them, and that the first is longer than that
abbrev pub shortened : List (ℤ × ℕ) → ℕ → List (ℤ × ℕ)
shortened [] passed = []
shortened (leg ∷ legs) passed = (leg.0, leg.1 - passed) ∷ legs

abbrev pub IsPassed : List (ℤ × ℕ) → ℕ → Type 0
IsPassed [] passed = Unit {0}
IsPassed (leg ∷ legs) passed = passed < leg.1

-- how far the value has risen d ticks after the function began, in thousandths
abbrev pub rise : Function → ℕ → ℤ
rise f d = legs_rise f.firsts f.last d

-- what is left of the function after d ticks
abbrev pub rest : Function → ℕ → Function
rest f d = record { firsts = legs_rest f.firsts d; last = f.last }

-- the slope in force d ticks after the function began
abbrev pub slope : Function → ℕ → ℤ
slope f d = legs_slope (legs_rest f.firsts d) f.last

-- whether one of such legs ends d ticks after the first began
abbrev pub leg_ends : List (ℤ × ℕ) → ℕ → Bool
leg_ends [] d = false
leg_ends (leg ∷ legs) d = leg.1 == d || (nat_lt leg.1 d && leg_ends legs (d - leg.1))

-- the first tick past t at which the test holds
pub record IsNextTurn (turns : ℕ → Bool) (t next : ℕ) : Type 0 where
  pub past : t < next
  pub at_next : turns next ≡ true
  pub none : (u : ℕ) → t < u → u < next → turns u ≡ false
