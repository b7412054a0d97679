-- The ticks that are found, object by object.
use Rattle.std.proofs.Common.{◌≡◌, ℕ, zero, suc, ◌+◌, ◌<◌, ◌≤◌, Bool, true, false, ◌&&◌, ◌||◌, nat_le, nat_lt, List, [], ◌∷◌, ◌++◌, length, take, set, get_or, refl, sym, ap, subst, ◌∙◌, inl, inr, arith}
use Rattle.std.specs.Prelude.{◌==◌}
use Rattle.std.proofs.lemmas.Bool.{false≢true, cases_Bool, cases_lt, or_right}
use Rattle.std.proofs.lemmas.Bool.Decides.{nat_tests}
use Rattle.tick_set.specs.Runs.{spans_have, IsNormal, IsNormalFrom}
use Rattle.tick_set.specs.Ticks.{within}
use Rattle.tick_set.proofs.RunLemmas.{spans_have-append}
use Rattle.std.proofs.lemmas.List.{take_more}
use Rattle.tick_set.specs.declared.spans.Span.{Span}
use Rattle.tick_set.specs.declared.spans.Window.{Window}
use Rattle.motion.specs.Timeline.{Epoch}
use Rattle.nearest.specs.Courses.{AreNumbered, HaveAscendingIndexes, index_near, is_near_along}
use Rattle.nearest.specs.Found.{AreBefore, HaveMore, runs_at}
use Rattle.nearest.specs.Sights.{AreEnough}
use Rattle.nearest.specs.declared.course.Course.{Course}
use Rattle.exact.proofs.Truths.{and_second_false, is_or_false}
use Rattle.exact.proofs.Naturals.{differs_below, equal_if_same}

pub none_pushed : (found : List (List Span)) (i : ℕ) → ((j : ℕ) → runs_at found j ≡ []) → runs_at (found ++ [] ∷ []) i ≡ []
none_pushed [] zero none = refl
none_pushed [] (suc i) none = refl
none_pushed (runs ∷ found) zero none = none 0
none_pushed (runs ∷ found) (suc i) none = none_pushed found i (λ j. none (suc j))

-- ---- indexes

least_ahead : (least n i : ℕ) (courses : List Course) (d : Course) → HaveAscendingIndexes least n courses → i < length courses → least ≤ (get_or courses i d).index
least_ahead least n i [] d ascend below = absurd (omega arith)
least_ahead least n zero (c ∷ courses) d ascend below = ascend.0
least_ahead least n (suc i) (c ∷ courses) d ascend below =
    let first = ascend.0 in
    let later = least_ahead (c.index + 1) n i courses d ascend.1.1 (omega arith) in
    omega (arith, first, later)

pub index_below : (least n i : ℕ) (courses : List Course) (d : Course) → HaveAscendingIndexes least n courses → i < length courses → (get_or courses i d).index < n
index_below least n i [] d ascend below = absurd (omega arith)
index_below least n zero (c ∷ courses) d ascend below = ascend.1.0
index_below least n (suc i) (c ∷ courses) d ascend below = index_below (c.index + 1) n i courses d ascend.1.1 (omega arith)

unlike : (i j : ℕ) → j < i → (i == j) ≡ false
unlike i j less = grind (arith, nat_tests)

-- none of the courses before one has its index
pub none_before_it : (from : List Epoch) (all : List Course) (k t least n i : ℕ) (courses : List Course) (d : Course) → HaveAscendingIndexes least n courses →
    i < length courses → index_near from all k (take i courses) (get_or courses i d).index t ≡ false
none_before_it from all k t least n i [] d ascend below = absurd (omega arith)
none_before_it from all k t least n zero (c ∷ courses) d ascend below = refl
none_before_it from all k t least n (suc i) (c ∷ courses) d ascend below =
    let index = (get_or courses i d).index in
    let ahead = least_ahead (c.index + 1) n i courses d ascend.1.1 (omega arith) in
    (λ j. (differs_below c.index index (omega (arith, ahead)) j && is_near_along from all k c t) || none_before_it from all k t (c.index + 1) n i courses d ascend.1.1 (omega arith) j)

numbered_ascend : (first n : ℕ) (courses : List Course) → first + length courses ≤ n → AreNumbered first courses → HaveAscendingIndexes first n courses
numbered_ascend first n [] few numbered = tt
numbered_ascend first n (c ∷ courses) few numbered =
    let is = numbered.0 in
    (omega (arith, is), (omega (arith, is), subst (λ (i : ℕ). HaveAscendingIndexes (i + 1) n courses) (sym is) (numbered_ascend (first + 1) n courses (omega arith) numbered.1)))

pub all_ascend : (courses : List Course) → AreNumbered 0 courses → HaveAscendingIndexes 0 (length courses) courses
all_ascend courses numbered = numbered_ascend 0 (length courses) courses (omega arith) numbered

pub numbered_more : (first : ℕ) (courses : List Course) (c : Course) → AreNumbered first courses → c.index ≡ first + length courses → AreNumbered first (courses ++ c ∷ [])
numbered_more first [] c numbered is = (omega (arith, is), tt)
numbered_more first (x ∷ courses) c numbered is = (numbered.0, numbered_more (first + 1) courses c numbered.1 (omega (arith, is)))

-- an index before the first is none of them
none_before_first : (from : List Epoch) (all : List Course) (k t first i : ℕ) (courses : List Course) → i < first → AreNumbered first courses →
    index_near from all k courses i t ≡ false
none_before_first from all k t first i [] less numbered = refl
none_before_first from all k t first i (c ∷ courses) less numbered =
    let is = numbered.0 in
    (λ j. (unlike c.index i (omega (arith, is, less)) j && is_near_along from all k c t) || none_before_first from all k t (first + 1) i courses (omega arith) numbered.1 j)

first_or_not : (its near rest : Bool) → its ≡ true → rest ≡ false → ((its && near) || rest) ≡ near
first_or_not true true rest is none = refl
first_or_not true false rest is none = none
first_or_not false near rest is none = absurd (false≢true is)

-- the object of an index is the one there
pub near_at_index : (from : List Epoch) (all : List Course) (k t first i : ℕ) (courses : List Course) (d : Course) → AreNumbered first courses → i < length courses →
    index_near from all k courses (first + i) t ≡ is_near_along from all k (get_or courses i d) t
near_at_index from all k t first i [] d numbered below = absurd (omega arith)
near_at_index from all k t first zero (c ∷ courses) d numbered below =
    let is = numbered.0 in
    first_or_not (c.index == (first + 0)) (is_near_along from all k c t) (index_near from all k courses (first + 0) t)
    (equal_if_same c.index (first + 0) (omega (arith, is))) (none_before_first from all k t (first + 1) (first + 0) courses (omega arith) numbered.1)
near_at_index from all k t first (suc i) (c ∷ courses) d numbered below =
    let is = numbered.0 in
    let next : first + suc i ≡ (first + 1) + i = omega arith in
    (λ j. (differs_below c.index (first + suc i) (omega (arith, is)) j && is_near_along from all k c t) || index_near from all k courses (next j) t)
    ∙ near_at_index from all k t (first + 1) i courses d numbered.1 (omega arith)

index_at : (first i : ℕ) (courses : List Course) (d : Course) → AreNumbered first courses → i < length courses → (get_or courses i d).index ≡ first + i
index_at first i [] d numbered below = absurd (omega arith)
index_at first zero (c ∷ courses) d numbered below = let is = numbered.0 in omega (arith, is)
index_at first (suc i) (c ∷ courses) d numbered below = let later = index_at (first + 1) i courses d numbered.1 (omega arith) in omega (arith, later)

pub near_at_own : (from : List Epoch) (k t i : ℕ) (courses : List Course) (o : Course) → AreNumbered 0 courses → i < length courses → o ≡ get_or courses i o →
    index_near from courses k courses o.index t ≡ is_near_along from courses k o t
near_at_own from k t i courses o numbered below is =
    ap (λ n. index_near from courses k courses n t) (ap (λ (c : Course). c.index) is ∙ index_at 0 i courses o numbered below)
    ∙ near_at_index from courses k t 0 i courses o numbered below
    ∙ ap (λ c. is_near_along from courses k c t) (sym is)

pub own_index : (i : ℕ) (courses : List Course) (o : Course) → AreNumbered 0 courses → i < length courses → o ≡ get_or courses i o → o.index < length courses
own_index i courses o numbered below is =
    let own : o.index ≡ (get_or courses i o).index = ap (λ (c : Course). c.index) is in
    let at = index_at 0 i courses o numbered below in
    omega (arith, own, at, below)

-- ---- one course more

pub found_more : (a b w n its : Bool) → ((a || (w && b)) || (its && (w && n))) ≡ (a || (w && (b || (its && n))))
found_more true b w n its = refl
found_more false b true n its = refl
found_more false b false n true = refl
found_more false b false n false = refl

pub none_more : (a w : Bool) → (a || (w && false)) ≡ a
none_more true w = refl
none_more false true = refl
none_more false false = refl

either_or : (a b : Bool) → (a || b) ≡ true → b ≡ false → a ≡ true
either_or true b is none = refl
either_or false b is none = absurd (false≢true (sym none ∙ is))

-- what is found for an index before its course is looked at, is before the slice
pub before_slice : (old w near : Bool) (lo t : ℕ) → (old ≡ true → t < lo) → (old || (w && near)) ≡ true → near ≡ false → t < lo
before_slice old w near lo t before had none = before (either_or old (w && near) had (and_second_false w near none))

-- ---- slices

-- what is found in two slices that meet
halves_meet : (lo middle until t : ℕ) (near : Bool) → lo ≤ middle → middle ≤ until →
    ((nat_le lo t && nat_lt t middle && near) || (nat_le middle t && nat_lt t until && near)) ≡ (nat_le lo t && nat_lt t until && near)
halves_meet lo middle until t near first second = grind (arith, nat_tests)

or_joined : (a b c d : Bool) → (b || c) ≡ d → ((a || b) || c) ≡ (a || d)
or_joined true b c d is = refl
or_joined false b c d is = is

pub both_found : (from : List Epoch) (few : List Course) (k lo begin middle next until : ℕ) (old between new : List (List Span)) → begin ≡ lo → next ≡ middle →
    lo ≤ middle → middle ≤ until → length between ≡ length old → HaveMore from few k begin middle old between → HaveMore from few k next until between new →
    HaveMore from few k lo until old new
both_found from few k lo begin middle next until old between new begins meets first second same one other i t below =
    other i t (omega (arith, same, below))
    ∙ (λ j. one i t below j || (nat_le (meets j) t && nat_lt t until && index_near from few k few i t))
    ∙ (λ j. (spans_have (runs_at old i) t || (nat_le (begins j) t && nat_lt t middle && index_near from few k few i t)) || (nat_le middle t && nat_lt t until && index_near from few k few i t))
    ∙ or_joined (spans_have (runs_at old i) t) (nat_le lo t && nat_lt t middle && index_near from few k few i t)
    (nat_le middle t && nat_lt t until && index_near from few k few i t) (nat_le lo t && nat_lt t until && index_near from few k few i t)
    (halves_meet lo middle until t (index_near from few k few i t) first second)

guarded_until : (lo hi until t : ℕ) (x y : Bool) → until ≤ hi + 1 → (lo ≤ t → t ≤ hi → x ≡ y) → (nat_le lo t && nat_lt t until && x) ≡ (nat_le lo t && nat_lt t until && y)
guarded_until lo hi until t x y inside same =
    elim (cases_lt t lo) [
      | inl before ↦ grind (arith, nat_tests)
      | inr from ↦ elim (cases_lt t until) [
        | inl here ↦ let is = same from (omega arith) in grind (arith, nat_tests)
        | inr past ↦ grind (arith, nat_tests)
      ]
    ]

-- what is found by the few is what all the courses tell
pub found_by_few : (from : List Epoch) (k until : ℕ) (w : Window) (few courses : List Course) (old new : List (List Span)) → until ≤ w.hi + 1 →
    AreEnough from k w few courses → HaveMore from few k w.lo until old new → HaveMore from courses k w.lo until old new
found_by_few from k until w few courses old new inside enough found i t below =
    found i t below
    ∙ ap (λ b. spans_have (runs_at old i) t || b)
    (guarded_until w.lo w.hi until t (index_near from few k few i t) (index_near from courses k courses i t) inside (enough i t))

pub enough_within : (from : List Epoch) (k : ℕ) (w part : Window) (few courses : List Course) → w.lo ≤ part.lo → part.hi ≤ w.hi → AreEnough from k w few courses → AreEnough from k part few courses
enough_within from k w part few courses first last enough i t begun up_to = enough i t (omega (arith, begun, first)) (omega (arith, up_to, last))

none_here : (lo until t : ℕ) (old near : Bool) → (old ≡ true → t < lo) → (old || (nat_le lo t && nat_lt t until && near)) ≡ true → lo ≤ until → t < until
none_here lo until t true near before had order = let less = before refl in omega (arith, less)
none_here lo until t false near before had order = grind (arith, nat_tests)

pub all_before : (from : List Epoch) (few : List Course) (k lo until : ℕ) (old new : List (List Span)) → length new ≡ length old → lo ≤ until → AreBefore lo old →
    HaveMore from few k lo until old new → AreBefore until new
all_before from few k lo until old new same order before more i t below had =
    let inside : i < length old = omega (arith, same, below) in
    none_here lo until t (spans_have (runs_at old i) t) (index_near from few k few i t) (before i t inside) (sym (more i t inside) ∙ had) order

-- ---- runs that are added to others

lo_ahead : (from i : ℕ) (spans : List Span) (d : Span) → IsNormalFrom from spans → i < length spans → from ≤ (get_or spans i d).lo
lo_ahead from i [] d normal below = absurd (omega arith)
lo_ahead from zero (s ∷ spans) d normal below = normal.0
lo_ahead from (suc i) (s ∷ spans) d normal below =
    let first = normal.0 in
    let order : s.lo ≤ s.hi = s.ordered in
    let later = lo_ahead (s.hi + 2) i spans d normal.1 (omega arith) in
    omega (arith, first, order, later)

has_own : (i : ℕ) (spans : List Span) (d : Span) → i < length spans → spans_have spans (get_or spans i d).lo ≡ true
has_own i [] d below = absurd (omega arith)
has_own zero (s ∷ spans) d below = let order : s.lo ≤ s.hi = s.ordered in grind (arith, nat_tests)
has_own (suc i) (s ∷ spans) d below =
    or_right (within s.lo s.hi (get_or spans i d).lo) (spans_have spans (get_or spans i d).lo) (has_own i spans d (omega arith))

past_taken : (from i t : ℕ) (spans : List Span) (d : Span) → IsNormalFrom from spans → i < length spans → spans_have (take i spans) t ≡ true →
    t < (get_or spans i d).lo
past_taken from i t [] d normal below had = absurd (omega arith)
past_taken from zero t (s ∷ spans) d normal below had = absurd (false≢true had)
past_taken from (suc i) t (s ∷ spans) d normal below had =
    elim (cases_Bool (within s.lo s.hi t)) [
      | inl inside ↦
          let ahead = lo_ahead (s.hi + 2) i spans d normal.1 (omega arith) in
          let up_to : t ≤ s.hi = grind (arith, nat_tests) in
          omega (arith, ahead, up_to)
      | inr outside ↦
          past_taken (s.hi + 2) i t spans d normal.1 (omega arith) (sym (ap (λ b. b || spans_have (take i spans) t) outside) ∙ had)
    ]

-- the next run is past those that are there and those that have been added
pub past_next : (old : ℕ → Bool) (spans : List Span) (i : ℕ) (s : Span) → IsNormal spans → i < length spans → s ≡ get_or spans i s →
    ((t u : ℕ) → old t ≡ true → spans_have spans u ≡ true → t < u) → (t : ℕ) → (old t || spans_have (take i spans) t) ≡ true → t < s.lo
past_next old spans i s normal below is past t had =
    let own : (get_or spans i s).lo ≡ s.lo = ap (λ (x : Span). x.lo) (sym is) in
    elim (cases_Bool (old t)) [
      | inl was ↦ let less = past t (get_or spans i s).lo was (has_own i spans s below) in omega (arith, less, own)
      | inr wasnt ↦
          let less = past_taken 0 i t spans s normal below (sym (ap (λ b. b || spans_have (take i spans) t) wasnt) ∙ had) in
          omega (arith, less, own)
    ]

or_three : (a b c d e : Bool) → c ≡ (a || b) → e ≡ (b || d) → (c || d) ≡ (a || e)
or_three true b c d e first second = ap (λ x. x || d) first
or_three false b c d e first second = ap (λ x. x || d) first ∙ sym second

-- one run more
pub spans_more : (old : ℕ → Bool) (spans : List Span) (i t : ℕ) (s : Span) (was now : Bool) → i < length spans → s ≡ get_or spans i s →
    was ≡ (old t || spans_have (take i spans) t) → now ≡ (was || spans_have (s ∷ []) t) → now ≡ (old t || spans_have (take (i + 1) spans) t)
spans_more old spans i t s was now below is before added =
    added
    ∙ or_three (old t) (spans_have (take i spans) t) was (spans_have (s ∷ []) t) (spans_have (take (i + 1) spans) t) before
    (ap (λ (xs : List Span). spans_have xs t) (take_more spans i s below)
    ∙ spans_have-append (take i spans) (get_or spans i s ∷ []) t
    ∙ ap (λ (x : Span). spans_have (take i spans) t || spans_have (x ∷ []) t) (sym is))

-- ---- runs at one index

both_later : (i j : ℕ) → (i == j) ≡ (suc i == suc j)
both_later i j = grind (arith, nat_tests)

or_another : (a its b : Bool) → its ≡ false → a ≡ (a || (its && b))
or_another a its b another = is_or_false a ∙ ap (λ x. a || (x && b)) (sym another)

pub runs_set : (found : List (List Span)) (index i t : ℕ) (runs more : List Span) → index < length found →
    ((u : ℕ) → spans_have runs u ≡ (spans_have (runs_at found index) u || spans_have more u)) →
    spans_have (runs_at (set found index runs) i) t ≡ (spans_have (runs_at found i) t || ((index == i) && spans_have more t))
runs_set [] index i t runs more below added = absurd (omega arith)
runs_set (x ∷ found) zero zero t runs more below added = added t
runs_set (x ∷ found) zero (suc i) t runs more below added =
    or_another (spans_have (runs_at found i) t) (zero == suc i) (spans_have more t) (differs_below zero (suc i) (omega arith))
runs_set (x ∷ found) (suc index) zero t runs more below added =
    or_another (spans_have x t) (suc index == zero) (spans_have more t) (unlike (suc index) zero (omega arith))
runs_set (x ∷ found) (suc index) (suc i) t runs more below added =
    runs_set found index i t runs more (omega arith) added
    ∙ ap (λ its. spans_have (runs_at found i) t || (its && spans_have more t)) (both_later index i)

-- ---- a slice as its ticks up to the next one

pub until_next : (lo hi t : ℕ) (b : Bool) → (within lo hi t && b) ≡ (nat_le lo t && nat_lt t (hi + 1) && b)
until_next lo hi t b = grind (arith, nat_tests)

-- ---- the whole window

not_both : (lo t : ℕ) (near : Bool) → (nat_le lo t && nat_lt t lo && near) ≡ false
not_both lo t near = grind (arith, nat_tests)

pub nothing_more : (from : List Epoch) (few : List Course) (k lo : ℕ) (old : List (List Span)) → HaveMore from few k lo lo old old
nothing_more from few k lo old i t below =
    is_or_false (spans_have (runs_at old i) t)
    ∙ ap (λ b. spans_have (runs_at old i) t || b) (sym (not_both lo t (index_near from few k few i t)))

pub before_any : (at : ℕ) (none : List (List Span)) → ((i : ℕ) → runs_at none i ≡ []) → AreBefore at none
before_any at none empty i t below had = absurd (false≢true (sym (ap (λ (runs : List Span). spans_have runs t) (empty i)) ∙ had))

pub all_found : (from : List Epoch) (courses : List Course) (k until : ℕ) (w : Window) (none new : List (List Span)) → until ≡ w.hi + 1 →
    ((i : ℕ) → runs_at none i ≡ []) → HaveMore from courses k w.lo until none new → (i t : ℕ) → i < length none →
    spans_have (runs_at new i) t ≡ (within w.lo w.hi t && index_near from courses k courses i t)
all_found from courses k until w none new all empty found i t below =
    found i t below
    ∙ (λ j. spans_have (empty i j) t || (nat_le w.lo t && nat_lt t (all j) && index_near from courses k courses i t))
    ∙ sym (until_next w.lo w.hi t (index_near from courses k courses i t))
