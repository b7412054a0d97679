-- The objects that are near throughout a slice of time.
use Rattle.std.proofs.Common.{◌≡◌, ℕ, ◌-◌, ◌<◌, ◌≤◌, ℤ, pos, ◌≤ℤ◌, int_lt, Bool, true, ◌&&◌, ◌||◌, nat_lt, cond, Option, None, Some, List, [], ◌∷◌, refl, sym, ◌∙◌, arith}
use Rattle.std.specs.Prelude.{All, count_by}
use Rattle.std.specs.Ordering.{int_eq}
use Rattle.std.proofs.lemmas.Int.{ints}
use Rattle.std.proofs.lemmas.Bool.{false≢true}
use Rattle.std.proofs.lemmas.Bool.Decides.{nat_tests}
use Rattle.std.proofs.lemmas.List.Elements.{All-head, All-tail, All-weaker}
use Rattle.std.proofs.lemmas.List.Sums.{sum_by-cons}
use Rattle.tick_set.specs.declared.spans.Window.{Window}
use Rattle.motion.specs.Timeline.{Epoch}
use Rattle.nearness.specs.Nearest.{stands_before}
use Rattle.nearest.specs.Courses.{goes_before, rank_along, squared_along}
use Rattle.nearest.specs.Order.{separation_after}
use Rattle.nearest.specs.Sights.{AreFewWithin, IsSeenFrom, IsSight, is_surely_within, may_come_within, never_passes}
use Rattle.nearest.specs.declared.course.Course.{Course}
use Rattle.nearest.specs.declared.sight.Sight.{Sight}
use Rattle.nearest.specs.declared.sight.Sight.TheVariants as sights
use Rattle.exact.proofs.Truths.{cond_at_most}
use Rattle.exact.proofs.Integers.{at_most_passes}

-- more pass a weaker test
passed_by_more : (f g : Course → Bool) (courses : List Course) → All (λ c. f c ≡ true → g c ≡ true) courses → count_by f courses ≤ count_by g courses
passed_by_more f g [] are = omega arith
passed_by_more f g (c ∷ courses) are =
    let P : Course → Type 0 = λ x. f x ≡ true → g x ≡ true in
    let rest = passed_by_more f g courses (All-tail P c courses are) in
    let first = sum_by-cons (λ x. cond (f x) 1 0) c courses in
    let second = sum_by-cons (λ x. cond (g x) 1 0) c courses in
    let one = cond_at_most (f c) (g c) (All-head P c courses are) in
    omega (arith, rest, first, second, one)

at_most_before : (d e : ℤ) (earlier : Bool) → (int_lt d e || (int_eq d e && earlier)) ≡ true → d ≤ℤ e
at_most_before d e earlier before = grind (arith, ints, nat_tests)

-- who stands before one that never passes a bound, comes within that
before_within : (from near far : List Epoch) (p o m t : ℕ) (w : Window) (first second : Sight) → IsSight from near w first → IsSight from far w second →
    w.lo ≤ t → t ≤ w.hi → is_surely_within m second ≡ true → stands_before (squared_along from near t) p (squared_along from far t) o ≡ true → may_come_within (Some m) first ≡ true
before_within from near far p o m t w (sights.Straight band) (sights.Straight other) is its begun up_to inside before =
    let low = (is.bounds t begun up_to).0 in
    let high = (its.bounds t begun up_to).1 in
    let most : other.most ≤ m = grind (arith, nat_tests) in
    let d = separation_after band.separation (t - w.lo) in
    let e = separation_after other.separation (t - w.lo) in
    let order : d ≤ℤ e =
    at_most_before d e (nat_lt p o) (sym (λ i. stands_before (is.tells t begun up_to i) p (its.tells t begun up_to i) o) ∙ before) in
    at_most_passes band.least (pos m) (omega (arith, ints, low, high, most, order))
before_within from near far p o m t w sights.Absent (sights.Straight other) is its begun up_to inside before =
    absurd (false≢true (sym (λ i. stands_before (is t begun up_to i) p (its.tells t begun up_to i) o) ∙ before))
before_within from near far p o m t w sights.Unknown (sights.Straight other) is its begun up_to inside before = refl
before_within from near far p o m t w first sights.Absent is its begun up_to inside before = absurd (false≢true inside)
before_within from near far p o m t w first sights.Unknown is its begun up_to inside before = absurd (false≢true inside)

less_few : (n few k : ℕ) → n ≤ few → few < k → nat_lt n k ≡ true
less_few n few k at_most less = grind (arith, nat_tests)

-- fewer than k stand before one that never passes the bound
pub surely_near : (from : List Epoch) (k t : ℕ) (w : Window) (sure : Option ℕ) (courses : List Course) (o : Course) → All (IsSeenFrom from w) courses →
    IsSeenFrom from w o → AreFewWithin k sure courses → never_passes sure o.sight ≡ true → w.lo ≤ t → t ≤ w.hi → nat_lt (rank_along from courses o t) k ≡ true
surely_near from k t w None courses o seen o_seen few stays begun up_to = absurd (false≢true stays)
surely_near from k t w (Some m) courses o seen o_seen few stays begun up_to =
    less_few (rank_along from courses o t) (count_by (λ (c : Course). may_come_within (Some m) c.sight) courses) k
    (passed_by_more (λ (p : Course). goes_before from p o t) (λ (c : Course). may_come_within (Some m) c.sight) courses
    (All-weaker (IsSeenFrom from w) (λ (p : Course). goes_before from p o t ≡ true → may_come_within (Some m) p.sight ≡ true)
    (λ p of_p before. before_within from p.timeline.now o.timeline.now p.id o.id m t w p.sight o.sight of_p o_seen begun up_to stays before) courses seen))
    few

-- none of fewer than k is fewer than k
pub none_of_few : (rank k none : ℕ) → none ≡ 0 → nat_lt rank k ≡ true → nat_lt none (k - 0) ≡ nat_lt rank k
none_of_few rank k none is few = grind (arith, nat_tests)
