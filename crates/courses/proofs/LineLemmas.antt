-- How the line that a timeline tells goes on from a later tick.
use Rattle.std.proofs.Common.{◌≡◌, ℕ, ℤ, pos, ◌-◌, ◌*ℤ◌, ◌+ℤ◌, ◌≤◌, Some, List, ap, ◌∙◌, arith}
use Rattle.std.specs.Prelude.{option_and_then}
use Rattle.std.proofs.lemmas.Int.{ints}
use Rattle.geometry.specs.Plane.{point}
use Rattle.motion.specs.declared.straight.Straight.{Straight}
use Rattle.motion.specs.Timeline.{Epoch}
use Rattle.motion.specs.Straight.{IsStraightOf}
use Rattle.motion.proofs.StraightLemmas.{climbed_on}
use Rattle.motion.specs.Cells.{dynamic_of}
use Rattle.courses.specs.Places.{place_at, place_by, place_of}

-- the place by the line, from its first tick on
pub place_at-straight : (epochs : List Epoch) (line : Straight) (t : ℕ) → IsStraightOf epochs line → line.from ≤ t
    → place_at epochs t ≡ Some (point (line.x +ℤ line.dx *ℤ pos (t - line.from)) (line.y +ℤ line.dy *ℤ pos (t - line.from)))
place_at-straight epochs line t told later =
    ap (option_and_then (λ p. place_of p t)) (told.in_force t later)
    ∙ (λ i. place_by (option_and_then dynamic_of (told.x.cell i)) (option_and_then dynamic_of (told.y.cell i)) t)
    ∙ (λ i. Some (point (told.x.value t later i) (told.y.value t later i)))

-- a value that moves by one slope, by its value `at` at a later tick
pub moved_on : (start slope at : ℤ) (from lo t : ℕ) → at ≡ start +ℤ slope *ℤ pos (lo - from) → from ≤ lo → lo ≤ t
    → start +ℤ slope *ℤ pos (t - from) ≡ at +ℤ slope *ℤ pos (t - lo)
moved_on start slope at from lo t is order later = let on = climbed_on slope from lo t order later in omega (arith, ints, on, is)
