-- How large the squares of distances are.
use Rattle.std.specs.Prelude.{pos, unsigned_abs, ℕ, ℤ, ◌*◌, ◌-◌, ◌≤ℤ◌, ◌≤◌}
use Rattle.tick_set.specs.declared.spans.Window.{Window}
use Rattle.distance_crossing.specs.declared.near.TheConstants.{SHORT_WINDOW}

-- three numbers may be the squares of sides
pub record AreSquares (a b c : ℤ) : Type 0 where
  pub a_least : pos 0 ≤ℤ a
  pub b_least : pos 0 ≤ℤ b
  pub c_least : pos 0 ≤ℤ c

-- none of three numbers is larger
pub record AreSquaresUpTo (most : ℕ) (a b c : ℤ) : Type 0 where
  pub a_most : unsigned_abs a ≤ most
  pub b_most : unsigned_abs b ≤ most
  pub c_most : unsigned_abs c ≤ most

-- the square of the doubled area between two sides is at most the product of their squares
abbrev pub IsAreaWithin : ℤ → ℤ → ℤ → Type 0
IsAreaWithin area a b = unsigned_abs area * unsigned_abs area ≤ unsigned_abs a * unsigned_abs b

-- what holds where the window is short
abbrev pub IfShort : Window → Type 0 → Type 0
IfShort w P = w.hi - w.lo ≤ SHORT_WINDOW → P
