-- The courses that suffice in a slice of time.
use Rattle.std.proofs.Common.{◌≡◌, ℕ, zero, suc, ◌+◌, ◌-◌, ◌<◌, ◌≤◌, ℤ, pos, ◌<ℤ◌, int_le, Bool, true, false, ◌&&◌, ◌||◌, nat_le, nat_lt, cond, ◌⊎◌, inl, inr, Option, None, Some, is_some, List, [], ◌∷◌, ◌++◌, length, map, take, get_or, refl, sym, ap, subst, ◌∙◌, arith}
use Rattle.std.specs.Prelude.{◌==◌, slice_index, All, IfSome, count_by, if◌then◌else◌}
use Rattle.std.specs.List.{filter, list_any}
use Rattle.std.specs.List.Sorted.{IsNonDecreasing}
use Rattle.std.specs.Ordering.{int_eq}
use Rattle.std.proofs.lemmas.Int.{ints}
use Rattle.std.proofs.lemmas.Bool.{false≢true}
use Rattle.std.proofs.lemmas.Bool.Decides.{nat_tests}
use Rattle.std.proofs.lemmas.List.{map-append, take_more}
use Rattle.std.proofs.lemmas.List.Elements.{All-weaker, filter-append}
use Rattle.std.proofs.lemmas.List.Sums.{sum_by-cons, sum_by_push}
use Rattle.tick_set.specs.declared.spans.Window.{Window}
use Rattle.motion.specs.Timeline.{Epoch}
use Rattle.nearness.specs.Nearest.{stands_before}
use Rattle.nearness.proofs.KeptLemmas.{any_kept, counted_among_kept, few_by_kept}
use Rattle.nearness.proofs.OrderLemmas.{before_passes, none_of_absent}
use Rattle.nearest.specs.Courses.{HaveAscendingIndexes, goes_before, index_near, is_near_along, rank_along, squared_along}
use Rattle.nearest.specs.Depth.{count_to}
use Rattle.nearest.specs.Order.{separation_after}
use Rattle.nearest.specs.Sights.{CourseBody, IsSeenFrom, IsSight, course_body, is_surely_within, may_come_within}
use Rattle.nearest.specs.declared.course.Course.{Course}
use Rattle.nearest.specs.declared.sight.Sight.{Sight}
use Rattle.nearest.specs.declared.sight.Sight.TheVariants as sights
use Rattle.nearest.proofs.SweepLemmas.{count_to-cons}
use Rattle.exact.proofs.Truths.{and_second_false}
use Rattle.exact.proofs.Integers.{at_most_passes, below_passes_less}

-- ---- what is seen of an object doesn't tell where it is

count_map : {A B : Type 0} (f : B → Bool) (g : A → B) (xs : List A) → count_by f (map g xs) ≡ count_by (λ x. f (g x)) xs
count_map f g [] = refl
count_map f g (x ∷ xs) =
    sum_by-cons (λ y. cond (f y) 1 0) (g x) (map g xs)
    ∙ ap (λ n. cond (f (g x)) 1 0 + n) (count_map f g xs)
    ∙ sym (sum_by-cons (λ y. cond (f (g y)) 1 0) x xs)

any_map : {A B : Type 0} (f : B → Bool) (g : A → B) (xs : List A) → list_any f (map g xs) ≡ list_any (λ x. f (g x)) xs
any_map f g [] = refl
any_map f g (x ∷ xs) = ap (λ b. f (g x) || b) (any_map f g xs)

abbrev pub body_before : List Epoch → ℕ → CourseBody → CourseBody → Bool
body_before from t p o = stands_before (squared_along from p.epochs t) p.id (squared_along from o.epochs t) o.id

abbrev pub body_near : List Epoch → List CourseBody → ℕ → ℕ → ℕ → CourseBody → Bool
body_near from bodies k i t b = (b.index == i) && (is_some (squared_along from b.epochs t) && nat_lt (count_by (λ p. body_before from t p b) bodies) k)

near_by_bodies : (from : List Epoch) (courses : List Course) (k i t : ℕ) →
    list_any (body_near from (map course_body courses) k i t) (map course_body courses) ≡ index_near from courses k courses i t
near_by_bodies from courses k i t =
    any_map (body_near from (map course_body courses) k i t) course_body courses
    ∙ (λ j. list_any (λ (c : Course). (c.index == i) && (is_some (squared_along from c.timeline.now t) && nat_lt (count_map (λ p. body_before from t p (course_body c)) course_body courses j) k)) courses)

pub same_bodies : (from : List Epoch) (few courses : List Course) (k i t : ℕ) → map course_body few ≡ map course_body courses →
    index_near from few k few i t ≡ index_near from courses k courses i t
same_bodies from few courses k i t same =
    sym (near_by_bodies from few k i t)
    ∙ ap (λ bodies. list_any (body_near from bodies k i t) bodies) same
    ∙ near_by_bodies from courses k i t

-- ---- indexes

ascend_from : (low least n : ℕ) (courses : List Course) → low ≤ least → HaveAscendingIndexes least n courses → HaveAscendingIndexes low n courses
ascend_from low least n [] less ascend = tt
ascend_from low least n (c ∷ courses) less ascend = let first = ascend.0 in (omega (arith, first, less), ascend.1)

pub ascend_alike : (least n : ℕ) (few courses : List Course) → map course_body few ≡ map course_body courses → HaveAscendingIndexes least n courses → HaveAscendingIndexes least n few
ascend_alike least n [] courses same ascend = tt
ascend_alike least n (x ∷ few) [] same ascend = absurd (cc)
ascend_alike least n (x ∷ few) (y ∷ courses) same ascend =
    let first : course_body x ≡ course_body y = cc in
    let later : map course_body few ≡ map course_body courses = cc in
    let index : x.index ≡ y.index = ap (λ (b : CourseBody). b.index) first in
    let from = ascend.0 in
    let below = ascend.1.0 in
    let rest : HaveAscendingIndexes (x.index + 1) n courses = subst (λ (i : ℕ). HaveAscendingIndexes (i + 1) n courses) (sym index) ascend.1.1 in
    (omega (arith, from, index), (omega (arith, below, index), ascend_alike (x.index + 1) n few courses later rest))

ascend_step : (least n : ℕ) (c : Course) (rest : List Course) (its : Bool) → least ≤ c.index → c.index < n → HaveAscendingIndexes (c.index + 1) n rest →
    HaveAscendingIndexes least n (if its then (c ∷ rest) else rest)
ascend_step least n c rest true from below ascend = (from, (below, ascend))
ascend_step least n c rest false from below ascend = ascend_from least (c.index + 1) n rest (omega (arith, from)) ascend

pub ascend_kept : (keep : Course → Bool) (least n : ℕ) (courses : List Course) → HaveAscendingIndexes least n courses → HaveAscendingIndexes least n (filter keep courses)
ascend_kept keep least n [] ascend = tt
ascend_kept keep least n (c ∷ courses) ascend =
    ascend_step least n c (filter keep courses) (keep c) ascend.0 ascend.1.0 (ascend_kept keep (c.index + 1) n courses ascend.1.1)

-- ---- those that stand before one that is left out

-- one that never passes the bound is kept, and stands before one that is past it
within_before : (from near far : List Epoch) (p o m t : ℕ) (w : Window) (sight : Sight) (d : ℤ) → IsSight from near w sight → w.lo ≤ t → t ≤ w.hi →
    squared_along from far t ≡ Some d → pos m <ℤ d → is_surely_within m sight ≡ true →
    (may_come_within (Some m) sight ≡ true) × (stands_before (squared_along from near t) p (squared_along from far t) o ≡ true)
within_before from near far p o m t w (sights.Straight band) d is begun up_to square past inside =
    let bounds = is.bounds t begun up_to in
    let low = bounds.0 in
    let high = bounds.1 in
    let most : band.most ≤ m = grind (arith, nat_tests) in (
      at_most_passes band.least (pos m) (omega (arith, ints, low, high, most)),
      (λ i. stands_before (is.tells t begun up_to i) p (square i) o)
          ∙ ap (λ b. b || (int_eq (separation_after band.separation (t - w.lo)) d && nat_lt p o))
          (below_passes_less (separation_after band.separation (t - w.lo)) d (omega (arith, ints, high, most, past))),
    )
within_before from near far p o m t w sights.Absent d is begun up_to square past inside = absurd (false≢true inside)
within_before from near far p o m t w sights.Unknown d is begun up_to square past inside = absurd (false≢true inside)

past_bound : (least : ℤ) (m : ℕ) → int_le least (pos m) ≡ false → pos m <ℤ least
past_bound least m is = grind (arith, ints, nat_tests)

abbrev pub EnoughWithin : ℕ → Option ℕ → List Course → Type 0
EnoughWithin k bound seen = IfSome bound (λ m. k ≤ count_by (λ (c : Course). is_surely_within m c.sight) seen)

-- an object that is left out is absent, or k kept ones stand before it
behind : (from far : List Epoch) (o k t : ℕ) (w : Window) (bound : Option ℕ) (seen : List Course) (sight : Sight) → All (IsSeenFrom from w) seen →
    EnoughWithin k bound seen → IsSight from far w sight → w.lo ≤ t → t ≤ w.hi → may_come_within bound sight ≡ false →
    (squared_along from far t ≡ None)
    ⊎ (k ≤ count_by (λ (p : Course). stands_before (squared_along from p.timeline.now t) p.id (squared_along from far t) o) (filter (λ (c : Course). may_come_within bound c.sight) seen))
behind from far o k t w bound seen sights.Absent all enough is begun up_to out = inl (is t begun up_to)
behind from far o k t w bound seen sights.Unknown all enough is begun up_to out = absurd (false≢true (sym out))
behind from far o k t w None seen (sights.Straight band) all enough is begun up_to out = absurd (false≢true (sym out))
behind from far o k t w (Some m) seen (sights.Straight band) all enough is begun up_to out =
    let past = past_bound band.least m out in
    let bounds = is.bounds t begun up_to in
    let low = bounds.0 in
    let square = is.tells t begun up_to in
    let d = separation_after band.separation (t - w.lo) in
    let more : pos m <ℤ d = omega (arith, ints, past, low) in
    let few =
    counted_among_kept (λ (c : Course). is_surely_within m c.sight) (λ (c : Course). may_come_within (Some m) c.sight)
    (λ (p : Course). stands_before (squared_along from p.timeline.now t) p.id (squared_along from far t) o) seen
    (All-weaker (IsSeenFrom from w)
    (λ (c : Course). is_surely_within m c.sight ≡ true →
    (may_come_within (Some m) c.sight ≡ true) × (stands_before (squared_along from c.timeline.now t) c.id (squared_along from far t) o ≡ true))
    (λ c of_c inside. within_before from c.timeline.now far c.id o m t w c.sight d of_c begun up_to square more inside) seen all) in
    inr (omega (arith, enough, few))

absent_before_none : (d e : Option ℤ) (p o : ℕ) → d ≡ None → stands_before d p e o ≡ false
absent_before_none d e p o absent = none_of_absent d e p o (ap is_some absent)

left_out_far : (there : Bool) (n k : ℕ) → k ≤ n → (there && nat_lt n k) ≡ false
left_out_far true n k many = grind (arith, nat_tests)
left_out_far false n k many = refl

module _ (from : List Epoch) (k t : ℕ) (w : Window) (bound : Option ℕ) (seen : List Course) (all : All (IsSeenFrom from w) seen)
    (enough : EnoughWithin k bound seen) (begun : w.lo ≤ t) (up_to : t ≤ w.hi) where
  abbrev pub keep : Course → Bool
  keep c = may_come_within bound c.sight

  abbrev pub IsBehind : Course → Type 0
  IsBehind x = keep x ≡ false → (squared_along from x.timeline.now t ≡ None) ⊎ (k ≤ count_by (λ p. goes_before from p x t) (filter keep seen))

  all_behind : All IsBehind seen
  all_behind = All-weaker (IsSeenFrom from w) IsBehind (λ x of_x out. behind from x.timeline.now x.id k t w bound seen x.sight all enough of_x begun up_to out) seen all

  abbrev pub StandsBack : Course → Type 0
  StandsBack x = keep x ≡ false → ((other : Course) → goes_before from x other t ≡ false) ⊎ (k ≤ count_by (λ p. goes_before from p x t) (filter keep seen))

  stands_back : (x : Course) → IsBehind x → StandsBack x
  stands_back x is out =
      elim (is out) [
        | inl absent ↦ inl (λ other. absent_before_none (squared_along from x.timeline.now t) (squared_along from other.timeline.now t) x.id other.id absent)
        | inr many ↦ inr many
      ]

  same_few : (o : Course) → nat_lt (rank_along from seen o t) k ≡ nat_lt (rank_along from (filter keep seen) o t) k
  same_few =
      few_by_kept (λ (p o : Course). goes_before from p o t)
      (λ p q o. before_passes (squared_along from p.timeline.now t) (squared_along from q.timeline.now t) (squared_along from o.timeline.now t) p.id q.id o.id)
      seen keep k (All-weaker IsBehind StandsBack stands_back seen all_behind)

  never_near : (i : ℕ) (x : Course) → IsBehind x → keep x ≡ false → ((x.index == i) && is_near_along from seen k x t) ≡ false
  never_near i x is out =
      elim (is out) [
        | inl absent ↦ and_second_false (x.index == i) (is_near_along from seen k x t) (ap (λ d. is_some d && nat_lt (rank_along from seen x t) k) absent)
        | inr many ↦
            and_second_false (x.index == i) (is_near_along from seen k x t)
            (ap (λ b. is_some (squared_along from x.timeline.now t) && b) (same_few x)
            ∙ left_out_far (is_some (squared_along from x.timeline.now t)) (rank_along from (filter keep seen) x t) k many)
      ]

  pub kept_near : (i : ℕ) → index_near from (filter keep seen) k (filter keep seen) i t ≡ index_near from seen k seen i t
  kept_near i =
      (λ j. list_any (λ (c : Course). (c.index == i) && (is_some (squared_along from c.timeline.now t) && sym (same_few c) j)) (filter keep seen))
      ∙ any_kept (λ (c : Course). (c.index == i) && is_near_along from seen k c t) keep seen
      (All-weaker IsBehind (λ (x : Course). keep x ≡ false → ((x.index == i) && is_near_along from seen k x t) ≡ false) (never_near i) seen all_behind)

-- ---- one course more

pub kept_more : (keep : Course → Bool) (courses : List Course) (i : ℕ) (c : Course) → i < length courses → c ≡ get_or courses i c →
    filter keep (take (i + 1) courses) ≡ filter keep (take i courses) ++ filter keep (c ∷ [])
kept_more keep courses i c below is =
    ap (filter keep) (take_more courses i c below)
    ∙ filter-append keep (take i courses) (get_or courses i c ∷ [])
    ∙ ap (λ x. filter keep (take i courses) ++ filter keep (x ∷ [])) (sym is)

pub kept_one : (keep : Course → Bool) (c : Course) → keep c ≡ true → filter keep (c ∷ []) ≡ c ∷ []
kept_one keep c is = ap (λ b. if b then (c ∷ []) else []) is

pub kept_none : (keep : Course → Bool) (c : Course) → keep c ≡ false → filter keep (c ∷ []) ≡ []
kept_none keep c is = ap (λ b. if b then (c ∷ []) else []) is

-- ---- the bound

-- as many numbers as come first in order are at most the next one of these
least_counted : (numbers : List ℕ) (i m : ℕ) → i < length numbers → ((j : ℕ) → j ≤ i → slice_index numbers j ≤ m) → i + 1 ≤ count_to numbers m
least_counted [] i m below few = absurd (omega arith)
least_counted (x ∷ numbers) zero m below few =
    let first : x ≤ m = few 0 (omega arith) in
    let counted = count_to-cons x m numbers in
    grind (arith, nat_tests)
least_counted (x ∷ numbers) (suc i) m below few =
    let first : x ≤ m = few 0 (omega arith) in
    let later : i + 1 ≤ count_to numbers m = least_counted numbers i m (omega arith) (λ j before. few (suc j) (omega (arith, before))) in
    let counted = count_to-cons x m numbers in
    grind (arith, nat_tests)

pub ascending_counted : (numbers : List ℕ) (i : ℕ) → IsNonDecreasing numbers → i < length numbers → i + 1 ≤ count_to numbers (slice_index numbers i)
ascending_counted numbers i sorted below = least_counted numbers i (slice_index numbers i) below (λ j before. sorted j i 0 before below)

pub some_bound : (bound : Option ℕ) (given : List Course) (k : ℕ) (mosts sorted : List ℕ) →
    ((m : ℕ) → count_to mosts m ≤ count_by (λ (c : Course). is_surely_within m c.sight) given) → ((m : ℕ) → count_to sorted m ≡ count_to mosts m) →
    IfSome bound (λ m. k ≤ count_to sorted m) → IfSome bound (λ m. k ≤ count_by (λ (c : Course). is_surely_within m c.sight) given)
some_bound None given k mosts sorted counted alike bound = bound
some_bound (Some m) given k mosts sorted counted alike bound = let these = counted m in let those = alike m in omega (arith, these, those, bound)

-- fewer are counted in the front
pub counted_front : {A : Type 0} (f : A → Bool) (n : ℕ) (xs : List A) → count_by f (take n xs) ≤ count_by f xs
counted_front f zero [] = omega arith
counted_front f zero (x ∷ xs) = omega arith
counted_front f (suc n) [] = omega arith
counted_front f (suc n) (x ∷ xs) =
    let front = sum_by-cons (λ y. cond (f y) 1 0) x (take n xs) in
    let all = sum_by-cons (λ y. cond (f y) 1 0) x xs in
    let rest = counted_front f n xs in
    omega (arith, front, all, rest)

-- ---- one number more

pub mosts_pushed : (mosts : List ℕ) (most m n : ℕ) → count_to mosts m ≡ n → count_to (mosts ++ most ∷ []) m ≡ n + cond (nat_le most m) 1 0
mosts_pushed mosts most m n is = sum_by_push (λ u. cond (nat_le u m) 1 0) mosts most ∙ ap (λ x. x + cond (nat_le most m) 1 0) is

pub bodies_more : (courses seen new : List Course) (i : ℕ) (c x : Course) → i < length courses → c ≡ get_or courses i c → new ≡ seen ++ x ∷ [] →
    course_body x ≡ course_body c → map course_body seen ≡ map course_body (take i courses) → map course_body new ≡ map course_body (take (i + 1) courses)
bodies_more courses seen new i c x below is pushed same bodies =
    ap (map course_body) pushed
    ∙ map-append course_body seen (x ∷ [])
    ∙ (λ j. bodies j ++ same j ∷ [])
    ∙ ap (λ (last : Course). map course_body (take i courses) ++ course_body last ∷ []) is
    ∙ sym (map-append course_body (take i courses) (get_or courses i c ∷ []))
    ∙ ap (map course_body) (sym (take_more courses i c below))
