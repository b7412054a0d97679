-- The rows of the nearest objects.
use Rattle.std.proofs.Common.{◌≡◌, ℕ, ◌+◌, ◌-◌, ◌<◌, ◌≤◌, ℤ, Bool, true, false, not, ◌&&◌, nat_lt, cond, Option, is_some, List, [], ◌∷◌, ◌++◌, length, map, take, get_or, refl, sym, ap, ◌∙◌, inl, inr, arith}
use Rattle.std.specs.Prelude.{◌==◌, All, count_by, slice_index, if◌then◌else◌}
use Rattle.std.specs.List.{enumerate_from, filter}
use Rattle.std.proofs.lemmas.Bool.{false≢true, cases_Bool}
use Rattle.std.proofs.lemmas.Bool.Decides.{nat_tests}
use Rattle.std.proofs.lemmas.List.{append-nil, map-append, take_all, take_more}
use Rattle.std.proofs.lemmas.List.Elements.{All-cons, All-head, All-nil, All-tail, All-weaker, filter-append}
use Rattle.std.proofs.lemmas.List.Sums.{sum_by-cons, sum_by_more}
use Rattle.tick_set.specs.Runs.{pairs, runs_of, spans_have, IsNormal, IsRuns}
use Rattle.tick_set.specs.Ticks.{listed, within}
use Rattle.tick_set.proofs.RunLemmas.{runs_of_listed}
use Rattle.tick_set.specs.declared.spans.Span.{Span}
use Rattle.tick_set.specs.declared.spans.Window.{Window}
use Rattle.motion.specs.Timeline.{Epoch, state_at}
use Rattle.meaning.specs.Answer.{Row, has_ticks}
use Rattle.meaning.specs.Answer as answers
use Rattle.meaning.specs.Atom.{position_in}
use Rattle.history.specs.History.{History, cells_at}
use Rattle.object_store.specs.Contents.{Contents, StoredObject, history_of, ids_in}
use Rattle.nearness.specs.Nearest.{is_near, near, others_of, rank, squared_between, squared_to, stands_before}
use Rattle.nearest.specs.Courses.{IsOfStore, goes_before, is_near_along, rank_along, squared_along}
use Rattle.nearest.specs.Depth.{depth_at, one_if}
use Rattle.nearest.specs.Rows.{if_some, object_row, rows_along, told_near, told_near_row}
use Rattle.nearest.specs.declared.rows.NearRow.{NearRow}
use Rattle.nearest.specs.declared.course.Course.{Course}
use Rattle.nearest.proofs.PlaceLemmas.{place_by_state}

-- ---- the numbers of a class are those of objects

abbrev numbers : ℕ → ℕ → List StoredObject → List ℕ
numbers class first objects = map (λ (e : ℕ × StoredObject). e.0) (filter (λ (e : ℕ × StoredObject). e.1.class == class) (enumerate_from first objects))

number_first : (class first n : ℕ) (x : StoredObject) (objects : List StoredObject) (its : Bool) → first < n → All (λ id. id < n) (numbers class (first + 1) objects) →
    All (λ id. id < n)
    (map (λ (e : ℕ × StoredObject). e.0)
    (if its
    then ((first, x) ∷ filter (λ (e : ℕ × StoredObject). e.1.class == class) (enumerate_from (first + 1) objects))
    else filter (λ (e : ℕ × StoredObject). e.1.class == class) (enumerate_from (first + 1) objects)))
number_first class first n x objects true below later = All-cons (λ id. id < n) first (numbers class (first + 1) objects) below later
number_first class first n x objects false below later = later

numbers_below : (class first n : ℕ) (objects : List StoredObject) → first + length objects ≤ n → All (λ id. id < n) (numbers class first objects)
numbers_below class first n [] few = All-nil (λ id. id < n)
numbers_below class first n (x ∷ objects) few =
    number_first class first n x objects (x.class == class) (omega arith) (numbers_below class (first + 1) n objects (omega arith))

pub ids_stored : (s : Contents) (class : ℕ) → All (λ id. id < length s.objects) (ids_in s.objects class)
ids_stored s class = numbers_below class 0 (length s.objects) s.objects (omega arith)

-- ---- squares of distances in a store

pub seen_squares : (s : Contents) (from : List Epoch) (to t : ℕ) (c : Course) → cells_at (history_of s) to t ≡ state_at from t →
    IsOfStore s c → squared_to (history_of s) to t c.id ≡ squared_along from c.timeline.now t
seen_squares s from to t c target stored =
    (λ i. squared_between (position_in t (target i)) (position_in t (stored t i)))
    ∙ (λ i. squared_between (place_by_state from t i) (place_by_state c.timeline.now t i))

-- ---- ranks

same_rank : (far : ℕ → Option ℤ) (from : List Epoch) (o : Course) (t : ℕ) (courses : List Course) → far o.id ≡ squared_along from o.timeline.now t →
    All (λ c. far c.id ≡ squared_along from c.timeline.now t) courses → rank far (map (λ c. c.id) courses) o.id ≡ rank_along from courses o t
same_rank far from o t [] own all = refl
same_rank far from o t (c ∷ courses) own all =
    let first = All-head (λ (x : Course). far x.id ≡ squared_along from x.timeline.now t) c courses all in
    let later = same_rank far from o t courses own (All-tail (λ (x : Course). far x.id ≡ squared_along from x.timeline.now t) c courses all) in
    sum_by-cons (λ p. cond (stands_before (far p) p (far o.id) o.id) 1 0) c.id (map (λ (x : Course). x.id) courses)
    ∙ (λ i. cond (stands_before (first i) c.id (own i) o.id) 1 0 + later i)
    ∙ sym (sum_by-cons (λ p. cond (goes_before from p o t) 1 0) c courses)

same_nearness : (far : ℕ → Option ℤ) (from : List Epoch) (k : ℕ) (o : Course) (t : ℕ) (courses : List Course) → far o.id ≡ squared_along from o.timeline.now t →
    All (λ c. far c.id ≡ squared_along from c.timeline.now t) courses →
    is_near_along from courses k o t ≡ is_near far (map (λ c. c.id) courses) k o.id
same_nearness far from k o t courses own all =
    λ i. is_some (sym own i) && nat_lt (sym (same_rank far from o t courses own all) i) k

-- ---- rows

-- the row of an object by its number, as the nearest are defined
abbrev near_row : History → ℕ → List ℕ → ℕ → Window → List ℕ → Row
near_row h to ids k w key = answers.row_where (λ key t. is_near (squared_to h to t) ids k (slice_index key 0)) w.lo w.hi key

same_rows : (h : History) (from : List Epoch) (to k : ℕ) (w : Window) (courses some : List Course) (ids : List ℕ) →
    All (λ c. (t : ℕ) → is_near_along from courses k c t ≡ is_near (squared_to h to t) ids k c.id) some →
    map (λ c. object_row c.id (is_near_along from courses k c) w) some ≡ map (near_row h to ids k w) (map (λ id. id ∷ []) (map (λ c. c.id) some))
same_rows h from to k w courses [] ids all = refl
same_rows h from to k w courses (c ∷ some) ids all =
    let first = All-head (λ (x : Course). (t : ℕ) → is_near_along from courses k x t ≡ is_near (squared_to h to t) ids k x.id) c some all in
    let later = same_rows h from to k w courses some ids (All-tail (λ (x : Course). (t : ℕ) → is_near_along from courses k x t ≡ is_near (squared_to h to t) ids k x.id) c some all) in
    λ i. object_row c.id (λ t. first t i) w ∷ later i

-- the rows by the ranks among all courses are those of the nearest
pub rows_near : (s : Contents) (from : List Epoch) (class to k : ℕ) (w : Window) (courses : List Course) →
    ((t : ℕ) → cells_at (history_of s) to t ≡ state_at from t) → All (IsOfStore s) courses →
    map (λ c. c.id) courses ≡ others_of (history_of s) class to →
    rows_along from courses k w courses ≡ near (history_of s) class to k w.lo w.hi
rows_near s from class to k w courses target stored ids =
    let h = history_of s in
    let far : (t : ℕ) → All (λ (c : Course). squared_to h to t c.id ≡ squared_along from c.timeline.now t) courses = λ t.
    All-weaker (IsOfStore s) (λ (c : Course). squared_to h to t c.id ≡ squared_along from c.timeline.now t) (λ c of_store. seen_squares s from to t c (target t) of_store) courses stored in
    let same : All (λ (c : Course). (t : ℕ) → is_near_along from courses k c t ≡ is_near (squared_to h to t) (map (λ (x : Course). x.id) courses) k c.id) courses =
    All-weaker (IsOfStore s) (λ (c : Course). (t : ℕ) → is_near_along from courses k c t ≡ is_near (squared_to h to t) (map (λ (x : Course). x.id) courses) k c.id)
    (λ c of_store t. same_nearness (squared_to h to t) from k c t courses (seen_squares s from to t c (target t) of_store) (far t)) courses stored in
    ap (filter (λ r. has_ticks r.runs)) (same_rows h from to k w courses courses (map (λ (x : Course). x.id) courses) same)
    ∙ ap (λ others. filter (λ r. has_ticks r.runs) (map (near_row h to others k w) (map (λ id. id ∷ []) others))) ids

-- a row is kept where it has a tick
pub row_kept : (ticks : List Span) (id : ℕ) → (length ticks == 0) ≡ false → if_some (record { key = id ∷ []; runs = pairs ticks }) ≡ record { key = id ∷ []; runs = pairs ticks } ∷ []
row_kept [] id some = absurd (false≢true (sym some))
row_kept (span ∷ ticks) id some = refl

pub row_dropped : (ticks : List Span) (id : ℕ) → (length ticks == 0) ≡ true → if_some (record { key = id ∷ []; runs = pairs ticks }) ≡ []
row_dropped [] id none = refl
row_dropped (span ∷ ticks) id none = absurd (grind (arith, nat_tests))

-- ---- one object

pub both_inside : (inside few there : Bool) → ((inside && few) && (inside && there)) ≡ (inside && (there && few))
both_inside true true true = refl
both_inside true true false = refl
both_inside true false true = refl
both_inside true false false = refl
both_inside false few there = refl

-- ---- one object more

pub ids_more : (to : ℕ) (ids : List ℕ) (i id : ℕ) → i < length ids → id ≡ get_or ids i id →
    filter (λ n. not (n == to)) (take (i + 1) ids) ≡ filter (λ n. not (n == to)) (take i ids) ++ filter (λ n. not (n == to)) (id ∷ [])
ids_more to ids i id below is =
    ap (filter (λ n. not (n == to))) (take_more ids i id below)
    ∙ filter-append (λ n. not (n == to)) (take i ids) (get_or ids i id ∷ [])
    ∙ ap (λ n. filter (λ n. not (n == to)) (take i ids) ++ filter (λ n. not (n == to)) (n ∷ [])) (sym is)

pub count_more : (f : Course → Bool) (courses : List Course) (i : ℕ) (c : Course) → i < length courses → c ≡ get_or courses i c →
    count_by f (take (i + 1) courses) ≡ count_by f (take i courses) + one_if (f c)
count_more f courses i c below is =
    sum_by_more (λ x. cond (f x) 1 0) courses i c below ∙ ap (λ x. count_by f (take i courses) + one_if (f x)) (sym is)

pub rows_more : (from : List Epoch) (courses : List Course) (k : ℕ) (w : Window) (i : ℕ) (c : Course) → i < length courses → c ≡ get_or courses i c →
    rows_along from courses k w (take (i + 1) courses) ≡ rows_along from courses k w (take i courses) ++ if_some (object_row c.id (is_near_along from courses k c) w)
rows_more from courses k w i c below is =
    let row : Course → Row = λ x. object_row x.id (is_near_along from courses k x) w in
    ap (λ some. filter (λ r. has_ticks r.runs) (map row some)) (take_more courses i c below)
    ∙ ap (filter (λ r. has_ticks r.runs)) (map-append row (take i courses) (get_or courses i c ∷ []))
    ∙ filter-append (λ (r : Row). has_ticks r.runs) (map row (take i courses)) (row (get_or courses i c) ∷ [])
    ∙ ap (λ x. rows_along from courses k w (take i courses) ++ if_some (row x)) (sym is)

pub rows_all : (from : List Epoch) (courses : List Course) (k : ℕ) (w : Window) (i : ℕ) → length courses ≤ i →
    rows_along from courses k w (take i courses) ≡ rows_along from courses k w courses
rows_all from courses k w i all = ap (rows_along from courses k w) (take_all i courses all)

-- ---- one row more

pub row_added : (rows : List NearRow) (row : NearRow) (test : ℕ → Bool) (w : Window) → IsNormal row.ticks →
    ((t : ℕ) → spans_have row.ticks t ≡ (within w.lo w.hi t && test t)) → (length row.ticks == 0) ≡ false →
    told_near (rows ++ row ∷ []) ≡ told_near rows ++ if_some (object_row row.id test w)
row_added rows row test w normal are some =
    let runs : pairs row.ticks ≡ runs_of (listed test w.lo w.hi) =
    runs_of_listed (spans_have row.ticks) test w.lo w.hi row.ticks (record { normal = normal; ticks = λ t. refl }) are in
    map-append told_near_row rows (row ∷ [])
    ∙ ap (λ more. told_near rows ++ more) (sym (row_kept row.ticks row.id some))
    ∙ ap (λ told. told_near rows ++ if_some (record { key = row.id ∷ []; runs = told })) runs

pub row_left_out : (rows : List NearRow) (id : ℕ) (ticks : List Span) (test : ℕ → Bool) (w : Window) → IsNormal ticks →
    ((t : ℕ) → spans_have ticks t ≡ (within w.lo w.hi t && test t)) → (length ticks == 0) ≡ true →
    told_near rows ≡ told_near rows ++ if_some (object_row id test w)
row_left_out rows id ticks test w normal are none =
    let runs : pairs ticks ≡ runs_of (listed test w.lo w.hi) =
    runs_of_listed (spans_have ticks) test w.lo w.hi ticks (record { normal = normal; ticks = λ t. refl }) are in
    sym (append-nil (told_near rows))
    ∙ ap (λ more. told_near rows ++ more) (sym (row_dropped ticks id none))
    ∙ ap (λ told. told_near rows ++ if_some (record { key = id ∷ []; runs = told })) runs

-- ---- few before one object

pub few_ranked : (from : List Epoch) (courses : List Course) (o : Course) (k left : ℕ) (w : Window) (stretches runs : List Span) →
    ((t : ℕ) → within w.lo w.hi t ≡ true → nat_lt (depth_at stretches t) left ≡ nat_lt (rank_along from courses o t) k) →
    IsRuns (λ t. within w.lo w.hi t && nat_lt (depth_at stretches t) left) runs → IsRuns (λ t. within w.lo w.hi t && nat_lt (rank_along from courses o t) k) runs
few_ranked from courses o k left w stretches runs gathered are = record {
  normal = are.normal;
  ticks = λ t.
      are.ticks t
      ∙ elim (cases_Bool (within w.lo w.hi t)) [
        | inl inside ↦ ap (λ b. within w.lo w.hi t && b) (gathered t inside)
        | inr outside ↦ (λ i. outside i && nat_lt (depth_at stretches t) left) ∙ sym (λ i. outside i && nat_lt (rank_along from courses o t) k)
      ];
}

pub one_at_most : (b : Bool) → one_if b ≤ 1
one_at_most true = omega arith
one_at_most false = omega arith

-- how many more may stand before one, by those that do so throughout
pub few_more : (k throughout depth_at rank : ℕ) → throughout + depth_at ≡ rank → nat_lt depth_at (k - throughout) ≡ nat_lt rank k
few_more k throughout depth_at rank is = grind (arith, nat_tests)

pub too_many : (k throughout depth_at some rank : ℕ) → k ≤ throughout → throughout + depth_at ≡ some → some ≤ rank →
    nat_lt depth_at (k - throughout) ≡ nat_lt rank k
too_many k throughout depth_at some rank many is more = grind (arith, nat_tests)
