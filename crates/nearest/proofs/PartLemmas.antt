-- One object before another, in the common parts of their timelines and along the window.
use Rattle.std.proofs.Common.{◌≡◌, ℕ, ◌+◌, ◌≤◌, ℤ, Bool, true, false, ◌&&◌, nat_le, nat_lt, inl, inr, Option, None, Some, is_some, List, refl, sym, ap, ◌∙◌, arith}
use Rattle.std.specs.Prelude.{option_and_then, slice_index_or}
use Rattle.std.specs.Option.{option_copied, option_map}
use Rattle.std.proofs.lemmas.Bool.{false≢true, cases_Bool, cases_lt}
use Rattle.std.proofs.lemmas.Bool.Decides.{nat_tests}
use Rattle.fixed_point.specs.declared.number.Point.{Point}
use Rattle.linear_crossing.specs.declared.quad.Line.{Line}
use Rattle.linear_crossing.specs.Moving.{distance_after, position_after}
use Rattle.motion.specs.Timeline.{Epoch, epoch_at}
use Rattle.courses.specs.Places.{place_at, place_of}
use Rattle.courses.specs.declared.parts.Common.{Common}
use Rattle.courses.specs.CommonParts.{place_in}
use Rattle.nearness.specs.Nearest.{squared_between, stands_before}
use Rattle.tick_set.specs.Ticks.{within}
use Rattle.tick_set.specs.declared.spans.Window.{Window}
use Rattle.nearest.specs.Courses.{squared_along, squared_in}
use Rattle.nearest.specs.Depth.{one_if}
use Rattle.nearest.specs.Sights.{IsSight, is_straight}
use Rattle.nearest.specs.declared.sight.Sight.{Sight}
use Rattle.nearest.specs.declared.sight.Sight.TheVariants as sights
use Rattle.nearest.specs.declared.squares.Separation.{Separation}
use Rattle.exact.proofs.Truths.{and_false}

-- ---- squares

pub no_second : (from : Option Point) → squared_between from None ≡ None
no_second None = refl
no_second (Some p) = refl

-- the square of the distance of two objects that move along lines
pub squared_on_lines : (from to : Option Point) (l m : Line) (k : ℕ) (square : ℤ) → from ≡ Some (position_after l k) → to ≡ Some (position_after m k) →
    square ≡ distance_after l m k → squared_between from to ≡ Some square
squared_on_lines from to l m k square of_from of_to is = (λ i. squared_between (of_from i) (of_to i)) ∙ ap Some (sym is)

-- a separation is told where there is a square
pub told_there : (told : Option Separation) (square : Separation → ℤ) → is_some (option_map square told) ≡ is_some told
told_there None square = refl
told_there (Some s) square = refl

pub none_before : (d : Option ℤ) (p o : ℕ) → stands_before d p None o ≡ false
none_before None p o = refl
none_before (Some d) p o = refl

-- ---- tests in a stretch

pub guarded : (lo hi t : ℕ) (x y : Bool) → (lo ≤ t → t ≤ hi → x ≡ y) → (within lo hi t && x) ≡ (within lo hi t && y)
guarded lo hi t x y same =
    elim (cases_Bool (within lo hi t)) [
      | inl inside ↦
          let from : lo ≤ t = grind (arith, nat_tests) in
          let up_to : t ≤ hi = grind (arith, nat_tests) in
          ap (λ b. within lo hi t && b) (same from up_to)
      | inr outside ↦ (λ i. outside i && x) ∙ sym (λ i. outside i && y)
    ]

pub nowhere : (lo hi t : ℕ) (x : Bool) → (lo ≤ t → t ≤ hi → x ≡ false) → 0 ≡ one_if (within lo hi t && x)
nowhere lo hi t x never = sym (ap one_if (guarded lo hi t x false never ∙ and_false (within lo hi t)))

-- ---- one stretch more

-- what is added to a depth, in two steps
pub added : (new middle old first second both : ℕ) → new ≡ middle + second → middle ≡ old + first → both ≡ first + second → new ≡ old + both
added new middle old first second both later before is = omega arith

-- where both move along lines throughout the slice they have places there
pub straight_there : (from to : List Epoch) (w : Window) (sight : Sight) → is_straight sight ≡ true → IsSight from to w sight →
    (t : ℕ) → w.lo ≤ t → t ≤ w.hi → is_some (squared_along from to t) ≡ true
straight_there from to w (sights.Straight band) straight is t begun up_to = ap is_some (is.tells t begun up_to)
straight_there from to w sights.Absent straight is t begun up_to = absurd (false≢true straight)
straight_there from to w sights.Unknown straight is t begun up_to = absurd (false≢true straight)

-- ---- part by part

pub place_along : (epochs : List Epoch) (common : Common) (k t : ℕ) → epoch_at epochs t ≡ option_copied (slice_index_or common.epochs k None) →
    place_in common k t ≡ place_at epochs t
place_along epochs common k t is = sym (ap (option_and_then (λ p. place_of p t)) is)

pub squares_along : (from to : List Epoch) (common : Common) (k t : ℕ) → epoch_at from t ≡ option_copied (slice_index_or common.epochs 0 None) →
    epoch_at to t ≡ option_copied (slice_index_or common.epochs k None) → squared_in common k t ≡ squared_along from to t
squares_along from to common k t of_from of_to = λ i. squared_between (place_along from common 0 t of_from i) (place_along to common k t of_to i)

-- one more part
pub joined : (lo at hi t : ℕ) (x y : Bool) → lo ≤ at → at ≤ hi → (at ≤ t → t ≤ hi → x ≡ y) →
    one_if (nat_le lo t && nat_lt t at && y) + one_if (within at hi t && x) ≡ one_if (nat_le lo t && nat_lt t (hi + 1) && y)
joined lo at hi t x y begun order same =
    elim (cases_lt t at) [
      | inl before ↦ grind (arith, nat_tests)
      | inr from ↦ elim (cases_lt hi t) [
        | inl past ↦ grind (arith, nat_tests)
        | inr up_to ↦ let is = same from up_to in grind (arith, nat_tests)
      ]
    ]

pub none_joined : (lo t : ℕ) (y : Bool) → one_if (nat_le lo t && nat_lt t lo && y) ≡ 0
none_joined lo t y = grind (arith, nat_tests)

pub all_joined : (lo hi at t : ℕ) (y : Bool) → at ≡ hi + 1 → one_if (nat_le lo t && nat_lt t at && y) ≡ one_if (within lo hi t && y)
all_joined lo hi at t y all = grind (arith, nat_tests)
