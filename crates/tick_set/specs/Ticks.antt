-- Ticks are whole numbers. A set of ticks is a test of numbers.
use Rattle.std.specs.Prelude.{◌≡◌, ℕ, ◌+◌, ◌-◌, ◌≤◌, Bool, true, ◌&&◌, nat_le, List, filter}
use Rattle.std.specs.List.{range_with_len, list_any, list_all}
use Rattle.tick_set.specs.declared.spans.TheConstants.{LAST_TICK}

-- whether t is one of lo to hi, both included
abbrev pub within : ℕ → ℕ → ℕ → Bool
within lo hi t = nat_le lo t && nat_le t hi

-- each tick that passes the test is one of lo to hi
abbrev pub LiesIn : ℕ → ℕ → (ℕ → Bool) → Type 0
LiesIn lo hi test = (t : ℕ) → test t ≡ true → within lo hi t ≡ true

-- two tests agree at each tick of lo to hi
abbrev pub AgreeIn : ℕ → ℕ → (ℕ → Bool) → (ℕ → Bool) → Type 0
AgreeIn lo hi p q = (t : ℕ) → lo ≤ t → t ≤ hi → p t ≡ q t

-- the ticks from a up to b, without b
unfoldable pub between : ℕ → ℕ → List ℕ
between a b = range_with_len a (b - a)

-- the ticks of lo to hi that pass the test, ascending
unfoldable pub listed : (ℕ → Bool) → ℕ → ℕ → List ℕ
listed test lo hi = filter test (between lo (hi + 1))

-- whether some tick of lo to hi passes the test, and whether each does
unfoldable pub some_in : (ℕ → Bool) → ℕ → ℕ → Bool
some_in test lo hi = list_any test (between lo (hi + 1))

unfoldable pub all_in : (ℕ → Bool) → ℕ → ℕ → Bool
all_in test lo hi = list_all test (between lo (hi + 1))

-- the number is one of a tick
abbrev pub IsTick : ℕ → Type 0
IsTick t = t ≤ LAST_TICK
