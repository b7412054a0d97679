-- Squares of distances that change along parabolas, and the order by them.
use Rattle.std.specs.Prelude.{◌≡◌, ℕ, ◌+◌, ◌*◌, ◌<◌, ◌≤◌, ℤ, pos, ◌+ℤ◌, ◌*ℤ◌, ◌≤ℤ◌, ◌<ℤ◌, int_lt, Bool, ◌&&◌, ◌||◌}
use Rattle.std.specs.Ordering.{int_eq}
use Rattle.convex.specs.Parabola.{parabola}
use Rattle.nearest.specs.declared.order.Difference.{Difference}
use Rattle.nearest.specs.declared.squares.Separation.{Separation}
use Rattle.exact.specs.Rising.{FallsTo, RisesIn}

-- the square of the distance so many ticks after the first
abbrev pub separation_after : Separation → ℕ → ℤ
separation_after s k = parabola s.quadratic s.linear s.constant k

abbrev pub difference_after : Difference → ℕ → ℤ
difference_after d k = parabola d.quadratic d.linear d.constant k

-- whether the first square is less than the second, or as much where ties are asked for too
abbrev pub is_below : Bool → ℤ → ℤ → Bool
is_below ties d e = int_lt d e || (int_eq d e && ties)

-- how much a parabola rises from one number to the next
abbrev pub rise_after : ℕ → ℤ → ℕ → ℤ
rise_after a b k = pos a *ℤ pos (2 * k + 1) +ℤ b

-- f is at most the limit at `first`, which isn't past `lowest`, and above it at the number before
pub record IsFirstLow (f : ℕ → ℤ) (limit : ℤ) (lowest first : ℕ) : Type 0 where
  pub bound : first ≤ lowest
  pub low : f first ≤ℤ limit
  pub high_before : (k : ℕ) → k + 1 ≡ first → limit <ℤ f k

-- f is at most the limit at `end`, which isn't before `lowest`, and above it at the next number, if that is up to `last`
pub record IsLastLow (f : ℕ → ℤ) (limit : ℤ) (lowest last end : ℕ) : Type 0 where
  pub begins : lowest ≤ end
  pub bound : end ≤ last
  pub low : f end ≤ℤ limit
  pub high_after : end < last → limit <ℤ f (end + 1)

-- up to a number, and from it to a last one, parabolas of this quadratic and this linear part fall and rise
pub record IsTurn (quadratic : ℕ) (linear : ℤ) (last turn : ℕ) : Type 0 where
  pub bound : turn ≤ last
  pub falls : (constant : ℤ) → FallsTo (parabola quadratic linear constant) turn
  pub rises : (constant : ℤ) → RisesIn (parabola quadratic linear constant) turn last
