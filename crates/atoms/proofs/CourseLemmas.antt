-- Courses of terms: units, and sums of factors.
use Rattle.std.proofs.Common.{◌≡◌, ℕ, ◌+◌, ◌*◌, ◌-◌, ◌<◌, ◌≤◌, ◌^◌, ℤ, pos, negsuc, unsigned_abs, ◌+ℤ◌, ◌-ℤ◌, ◌*ℤ◌, Option, None, Some, List, [], ◌∷◌, map, length, take, get_or, sym, ap, ◌∙◌, arith}
use Rattle.std.specs.List.{fold}
use Rattle.std.specs.Option.{IfSome}
use Rattle.std.proofs.lemmas.Int.{ints}
use mir.Syntax.{w128}
use mir.Val.{of_z}
use Rattle.std.proofs.lemmas.List.{take_more, map-append}
use Rattle.std.proofs.lemmas.List.Sums.{fold-append}
use Rattle.linear_crossing.specs.Zones.{line_at}
use Rattle.motion.specs.Dynamic.{Dynamic, slope_at, value_at}
use Rattle.motion.specs.Pieces.{IsLinear}
use Rattle.formula.specs.declared.value.Value.{Value}
use Rattle.meaning.specs.Value.{plus}
use Rattle.atoms.specs.declared.terms.Course.{Course}
use Rattle.atoms.specs.declared.terms.Course.TheVariants as courses
use Rattle.atoms.specs.Courses.{IsCourseOf}

pub rests : (n : ℤ) (lo t : ℕ) → line_at (pos 0) n lo t ≡ n
rests n lo t = omega (arith, ints)

-- a rise that is passed as 0 is 0
pub no_rise : (r : ℤ) → unsigned_abs r ≤ 16 * 10 ^ 12 → of_z w128 r ≡ 0 → r ≡ pos 0
no_rise (pos n) small none = ap pos none
no_rise (negsuc n) small none = absurd (omega (arith, small, none))

swapped : (m first : ℤ) → m +ℤ first ≡ first +ℤ m
swapped m first = omega (arith, ints)

pub moves : (v : Dynamic) (lo hi t : ℕ) → IsLinear v lo hi → lo ≤ t → t ≤ hi → line_at (slope_at v lo) (value_at v lo) lo t ≡ value_at v t
moves v lo hi t linear from up_to =
    let since : pos t -ℤ pos lo ≡ pos (t - lo) = omega (arith, ints) in
    ap (λ k. slope_at v lo *ℤ k +ℤ value_at v lo) since
    ∙ swapped (slope_at v lo *ℤ pos (t - lo)) (value_at v lo)
    ∙ sym (linear.value t from up_to)

pub goes_by : (lo t : ℕ) → line_at (pos 1000) (pos (1000 * lo)) lo t ≡ pos (1000 * t)
goes_by lo t = omega (arith, ints)

-- ---- sizes

trend_wider : (m : ℕ) (n : ℕ) (course : Course) → m ≤ n → IsCourseOf m course → IsCourseOf n course
trend_wider m n (courses.Number x) less small = record { rise = omega (arith, small.rise); start = omega (arith, small.start) }
trend_wider m n (courses.Text s) less small = tt

pub course_wider : (course : Option Course) (m n : ℕ) → m ≤ n → IfSome course (IsCourseOf m) → IfSome course (IsCourseOf n)
course_wider None m n less small = tt
course_wider (Some course) m n less small = trend_wider m n course less small

-- ---- sums

pub sum_more : {A : Type 0} (value : A → Option Value) (first : Option Value) (xs : List A) (k : ℕ) (d : A) → k < length xs →
    fold plus first (map value (take (k + 1) xs)) ≡ plus (fold plus first (map value (take k xs))) (value (get_or xs k d))
sum_more {A} value first xs k d there =
    ap (λ ys. fold plus first (map value ys)) (take_more xs k d there)
    ∙ ap (fold plus first) (map-append value (take k xs) (get_or xs k d ∷ []))
    ∙ fold-append plus first (map value (take k xs)) (value (get_or xs k d) ∷ [])

-- the line by the ticks since the first
pub counted_from : (a b : ℤ) (lo t : ℕ) → lo ≤ t → line_at a b lo t ≡ a *ℤ pos (t - lo) +ℤ b
counted_from a b lo t from = let since : pos t -ℤ pos lo ≡ pos (t - lo) = omega (arith, ints) in ap (λ k. a *ℤ k +ℤ b) since
