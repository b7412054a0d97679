-- The objects of the rows of registered queries, and of what changes for them, are some of those that there are.
use Rattle.std.proofs.Common.{◌≡◌, ℕ, zero, suc, ◌+◌, ◌*◌, ◌/◌, ◌%◌, ◌<◌, ◌≤◌, Bool, true, false, ◌&&◌, ◌||◌, Option, None, List, [], ◌∷◌, ◌++◌, length, map, take, refl, ap, ◌∙◌, inl, inr, arith, if◌then◌else◌}
use Rattle.std.specs.Prelude.{⊤, ◌==◌, All, min, nat_le, nat_lt, slice_index, slice_index_or}
use Rattle.std.specs.List.{cons_option, enumerate_from, filter_map, flat_map, list_all, list_any}
use Rattle.std.proofs.lemmas.Bool.{and_from, and_parts, cases_Bool, false≢true}
use Rattle.std.proofs.lemmas.Bool.Decides.{nat_tests}
use Rattle.std.proofs.lemmas.List.{length-map, length-take}
use Rattle.std.proofs.lemmas.List.Elements.{All-head, All-tail}
use Rattle.std.proofs.lemmas.List.Folds.{list_all-append}
use Rattle.tick_set.specs.Runs.{runs_of}
use Rattle.tick_set.specs.Ticks.{between, listed}
use Rattle.tick_set.specs.declared.spans.Span.{Span}
use Rattle.tick_set.proofs.CallerLemmas.{same_listed}
use Rattle.history.specs.Catalog.{Catalog, ObjectInfo, ids_of}
use Rattle.history.specs.World.{World}
use Rattle.formula.specs.declared.kind.QueryKind.{QueryKind}
use Rattle.formula.specs.declared.kind.QueryKind.TheVariants as kinds
use Rattle.formula.specs.Resolved.{is_list_of}
use Rattle.formula_shape.specs.declared.limits.TheConstants.{OBJECT_LIMIT}
use Rattle.kept_rows.specs.declared.change.Change.{Change}
use Rattle.kept_rows.specs.Listing.{line_of, lines_between, lines_upto, passing_of, target_has, when_differ, with_runs}
use Rattle.kept_rows.specs.Numbers.{counts, size_of}
use Rattle.meaning.specs.Reads.{write_reads}
use Rattle.meaning.specs.Registered.{first_tick}
use Rattle.object_store.specs.Contents.{Contents, catalog_of, object_info}
use Rattle.live_queries.specs.declared.fresh.Renewal.{Renewal}
use Rattle.live_queries.specs.Asked.{ExtendsCatalog, HaveObjectsBefore, class_in}
use Rattle.live_queries.specs.Columns.{AreCounted, Column, HaveObjectsOf, column_variables, object_or}
use Rattle.live_queries.specs.Current.{AreCurrent, IsCurrentFor, full_at, row_at, told_from}
use Rattle.live_queries.specs.Kept.{IsKeptQuery, KeptQuery, registered_query}
use Rattle.live_queries.specs.Told.{Told, answer_of, changes_of, listed_lines, move, moves_of, passing_change, passings_of, row_of_line, target_count, target_times, target_width}
use Rattle.live_queries.proofs.ListLemmas.{lines_none}
use Rattle.database.specs.Rows.{has_objects}
use Rattle.database.proofs.RowLemmas.{are_below, ids_below}
use Rattle.registry.specs.Moves.{names_objects}
use Rattle.exact.proofs.Items.{filter_false}

-- ---- the objects of columns are some of so many

abbrev pub AreBelow : ℕ → List Column → Type 0
AreBelow count [] = ⊤
AreBelow count (c ∷ cs) = (are_below count c.ids ≡ true) × AreBelow count cs

columns_below : (catalog : Catalog) (classes : List ℕ) (count : ℕ) → length catalog.objects ≤ count → (cs : List Column) →
    HaveObjectsOf catalog classes cs → AreBelow count cs
columns_below catalog classes count few [] have = tt
columns_below catalog classes count few (c ∷ cs) have = (
  ap (are_below count) have.0 ∙ ids_below catalog (slice_index classes c.variable) count few,
  columns_below catalog classes count few cs have.1,
)

index_below : (count : ℕ) (ids : List ℕ) (place added : ℕ) → are_below count ids ≡ true → nat_lt added count ≡ true →
    nat_lt (slice_index_or ids place added) count ≡ true
index_below count [] place added all own = own
index_below count (id ∷ ids) zero added all own = (and_parts (nat_lt id count) (are_below count ids) all).0
index_below count (id ∷ ids) (suc place) added all own = index_below count ids place added (and_parts (nat_lt id count) (are_below count ids) all).1 own

chosen_below : (count : ℕ) (here : Bool) (a b : ℕ) → nat_lt a count ≡ true → nat_lt b count ≡ true → nat_lt (if here then a else b) count ≡ true
chosen_below count true a b first second = first
chosen_below count false a b first second = second

module _ (count added : ℕ) (own : nat_lt added count ≡ true) where
  some_below : nat_lt 0 count ≡ true
  some_below = grind (arith, nat_tests, own)

  object_below : (cs : List Column) → AreBelow count cs → (number v : ℕ) → nat_lt (object_or added cs number v) count ≡ true
  object_below [] below number v = some_below
  object_below (c ∷ cs) below number v =
      chosen_below count (v == c.variable) _ _ (index_below count c.ids _ added below.0 own) (object_below cs below.1 _ v)

  key_below : (cs : List Column) → AreBelow count cs → (number : ℕ) (vs : List ℕ) → are_below count (map (object_or added cs number) vs) ≡ true
  key_below cs below number [] = refl
  key_below cs below number (v ∷ vs) =
      and_from (nat_lt (object_or added cs number v) count) _ (object_below cs below number v) (key_below cs below number vs)

-- ---- lists of what has such keys

all_mapped : {A B : Type 0} (test : B → Bool) (f : A → B) → ((x : A) → test (f x) ≡ true) → (xs : List A) → list_all test (map f xs) ≡ true
all_mapped test f each [] = refl
all_mapped test f each (x ∷ xs) = and_from (test (f x)) _ (each x) (all_mapped test f each xs)

all_or_none : {A : Type 0} (test : A → Bool) (here : Bool) (xs : List A) → list_all test xs ≡ true → list_all test (if here then xs else []) ≡ true
all_or_none test true xs all = all
all_or_none test false xs all = refl

-- ---- where there is no object there is no binding, and nothing is told

no_line : {X : Type 0} (line : ℕ → Option X) → ((n : ℕ) → line n ≡ None) → (ns : List ℕ) → filter_map line ns ≡ []
no_line line none [] = refl
no_line line none (n ∷ ns) = ap (λ o. cons_option o (filter_map line ns)) (none n) ∙ no_line line none ns

none_listed : (test : ℕ → Bool) (lo hi : ℕ) → ((t : ℕ) → lo ≤ t → test t ≡ false) → listed test lo hi ≡ []
unfolding listed
none_listed test lo hi none = same_listed test (λ t. false) lo hi (λ t a b. none t a) ∙ filter_false (between lo (hi + 1))

no_row : (rows : ℕ → ℕ → Bool) (t : ℕ) → ((c : ℕ) → rows c t ≡ false) → (cs : List ℕ) → list_any (λ c. rows c t) cs ≡ false
no_row rows t none [] = refl
no_row rows t none (c ∷ cs) = (λ i. none c i || no_row rows t none cs i)

no_times : (rows : ℕ → ℕ → Bool) (t : ℕ) → ((c : ℕ) → rows c t ≡ false) → (width target : ℕ) → target_has rows width target t ≡ false
no_times rows t none width target = no_row rows t none (between (target * width) (target * width + width))

none_below : (count : ℕ) (ids : List ℕ) → nat_lt 0 count ≡ false → are_below count ids ≡ true → ids ≡ []
none_below count [] empty all = refl
none_below count (id ∷ ids) empty all = absurd (never id (and_parts (nat_lt id count) (are_below count ids) all).0)
  where
    never : (n : ℕ) → nat_lt n count ≡ true → ⊥
    never n below = grind (arith, nat_tests, empty, below)

no_binding : (count : ℕ) → nat_lt 0 count ≡ false → (cs : List Column) → AreBelow count cs → AreCounted cs → 0 < length cs →
    (n : ℕ) → counts (column_variables cs) n ≡ false
no_binding count empty [] below counted some n = absurd (omega (arith, some))
no_binding count empty (c ∷ cs) below counted some n =
    let size : ℕ = size_of (column_variables cs) in
    ap (λ m. nat_lt (n / size) m && counts (column_variables cs) (n % size)) (counted.0 ∙ ap length (none_below count c.ids empty below.0))
    ∙ none_less (n / size) (counts (column_variables cs) (n % size))
  where
    none_less : (m : ℕ) (b : Bool) → (nat_lt m 0 && b) ≡ false
    none_less m b = ap (λ a. a && b) (let e : nat_lt m 0 ≡ false = grind (arith, nat_tests) in e)

-- a query has a column
front_some : {A : Type 0} (f : A → ℕ) (xs : List A) (front rest : List ℕ) → map f xs ≡ front ++ rest → nat_lt 0 (length front) ≡ true → 0 < length xs
front_some f (x ∷ xs) front rest is some = omega arith
front_some f [] [] rest is some = absurd (false≢true some)
front_some f [] (v ∷ front) rest is some = absurd (let e : 0 ≡ suc (length (front ++ rest)) = ap length is in omega (arith, e))

some_column : (k : KeptQuery) → IsKeptQuery k → 0 < length k.columns
some_column k is =
    let parts = and_parts (is_list_of OBJECT_LIMIT k.query.targets) (list_all (λ v. nat_lt v (length k.query.classes)) k.query.targets) is.resolved.targets in
    let some = and_parts (nat_lt 0 (length k.query.targets)) (nat_le (length k.query.targets) OBJECT_LIMIT) parts.0 in
    front_some (λ (c : Column). c.variable) k.columns k.query.targets _ is.order some.0

module _ (w : World) (before : ℕ) (k : KeptQuery) (is : IsKeptQuery k) (current : IsCurrentFor w before k) where
  abbrev objects : ℕ
  objects = length w.history.catalog.objects

  below : AreBelow objects k.columns
  below = columns_below w.history.catalog k.query.classes objects (omega arith) k.columns current.objects

  no_rows : nat_lt 0 objects ≡ false → (t : ℕ) → told_from k before ≤ t → (c : ℕ) → row_at k c t ≡ false
  no_rows empty t from c =
      current.rows c t from
      ∙ ap (λ b. b && full_at w k c t) (no_binding objects empty k.columns below is.counted (some_column k is) c)

  no_answer : nat_lt 0 objects ≡ false → listed_lines k before ≡ []
  no_answer empty =
      lines_none (line_of (target_times k (row_at k)) (told_from k before) k.expiry)
      (λ n. ap (λ runs. with_runs n runs) (ap runs_of (none_listed (target_times k (row_at k) n) (told_from k before) k.expiry
      (λ t from. no_times (row_at k) t (no_rows empty t from) (target_width k) n))))
      (target_count k)

  no_passing : nat_lt 0 objects ≡ false → told_from k before ≤ before → (now : ℕ) → before ≤ now →
      lines_upto (passing_of (target_times k (row_at k)) k.expiry before now) (target_count k) ≡ []
  no_passing empty told now upto =
      lines_none (passing_of (target_times k (row_at k)) k.expiry before now)
      (λ n. (λ i. when_differ n (nat_le before k.expiry && no_times (row_at k) before (no_rows empty before told) (target_width k) n i)
      (nat_le now k.expiry && no_times (row_at k) now (no_rows empty now (omega (arith, told, upto))) (target_width k) n i))
      ∙ both_out n (nat_le before k.expiry) (nat_le now k.expiry))
      (target_count k)
    where
      both_out : (n : ℕ) (a b : Bool) → when_differ n (a && false) (b && false) ≡ None
      both_out n true true = refl
      both_out n true false = refl
      both_out n false true = refl
      both_out n false false = refl

  -- ---- what is told of a query that is current
  pub answer_below : list_all (has_objects objects) (answer_of k before) ≡ true
  answer_below = elim (cases_Bool (nat_lt 0 objects)) [
    | inl some ↦
        all_mapped (has_objects objects) (row_of_line k) (λ line. key_below objects 0 some k.columns below (line.0 * target_width k) k.query.targets)
        (listed_lines k before)
    | inr empty ↦ ap (λ lines. list_all (has_objects objects) (map (row_of_line k) lines)) (no_answer empty)
  ]

  passing_below : told_from k before ≤ before → (now : ℕ) → before ≤ now → list_all (names_objects objects) (passings_of before now k) ≡ true
  passing_below told now upto = elim (cases_Bool (nat_lt 0 objects)) [
    | inl some ↦ all_mapped (names_objects objects) (passing_change k) (λ p. key_below objects 0 some k.columns below (p.0 * target_width k) k.query.targets) _
    | inr empty ↦ ap (λ lines. list_all (names_objects objects) (map (passing_change k) lines)) (no_passing empty told now upto)
  ]

-- what the passing of time changes for queries that are current
pub passings_below : (w : World) (before now : ℕ) → before ≤ now → (live : List KeptQuery) → All IsKeptQuery live → AreCurrent w before live →
    All (λ k. k.entry ≤ before) live →
    list_all (names_objects (length w.history.catalog.objects)) (flat_map (passings_of before now) live) ≡ true
passings_below w before now upto [] kept current entered = refl
passings_below w before now upto (k ∷ live) kept current entered =
    list_all-append (names_objects (length w.history.catalog.objects)) (passings_of before now k) (flat_map (passings_of before now) live)
    ∙ and_from (list_all (names_objects (length w.history.catalog.objects)) (passings_of before now k)) _
    (passing_below w before k (All-head IsKeptQuery k live kept) (All-head (IsCurrentFor w before) k live current)
    (told_by k.kind (All-head (λ (x : KeptQuery). x.entry ≤ before) k live entered)) now upto)
    (passings_below w before now upto live (All-tail IsKeptQuery k live kept) (All-tail (IsCurrentFor w before) k live current)
    (All-tail (λ (x : KeptQuery). x.entry ≤ before) k live entered))
  where
    told_by : (kind : QueryKind) → k.entry ≤ before → first_tick kind k.entry before ≤ before
    told_by kinds.Watch h = omega arith
    told_by kinds.Keep h = h

-- ---- what a write changes

moves_below : (count id : ℕ) → nat_lt id count ≡ true → (now : ℕ) (k : KeptQuery) → AreBelow count k.columns → (changes : List (Change (List Span))) →
    list_all (names_objects count) (moves_of id now k changes) ≡ true
moves_below count id own now k below changes =
    all_or_none (names_objects count) (nat_le now k.expiry) _
    (all_mapped (names_objects count) (move id k) (λ m. key_below count id own k.columns below (m.target * target_width k) k.query.targets) _)

changes_from : (count id : ℕ) → nat_lt id count ≡ true → (now : ℕ) (old : Catalog) → length old.objects ≤ count → (live : List KeptQuery) →
    All (λ k. HaveObjectsOf old k.query.classes k.columns) live → (renewals : List Renewal) →
    list_all (names_objects count) (changes_of id now live renewals) ≡ true
changes_from count id own now old few [] have renewals = refl
changes_from count id own now old few (k ∷ live) have [] = refl
changes_from count id own now old few (k ∷ live) have (r ∷ renewals) =
    list_all-append (names_objects count) (moves_of id now k r.changes) (changes_of id now live renewals)
    ∙ and_from (list_all (names_objects count) (moves_of id now k r.changes)) _
    (moves_below count id own now k
    (columns_below old k.query.classes count few k.columns (All-head (λ (q : KeptQuery). HaveObjectsOf old q.query.classes q.columns) k live have)) r.changes)
    (changes_from count id own now old few live (All-tail (λ (q : KeptQuery). HaveObjectsOf old q.query.classes q.columns) k live have) renewals)

fewer_before : (id : ℕ) (old new : Catalog) → ExtendsCatalog id old new → length old.objects ≤ length new.objects
fewer_before id old new before =
    let e : length (take (length old.objects) new.objects) ≡ min (length old.objects) (length new.objects) = length-take (length old.objects) new.objects in
    let f : length (take (length old.objects) new.objects) ≡ length old.objects = ap length before.objects in
    omega (arith, e, f)

changes_below : (id now : ℕ) (s : Contents) (live : List KeptQuery) → id < length s.objects →
    HaveObjectsBefore id (catalog_of s) live → (renewals : List Renewal) →
    list_all (names_objects (length (catalog_of s).objects)) (changes_of id now live renewals) ≡ true
changes_below id now s live there before renewals =
    changes_from (length (catalog_of s).objects) id
    (is_below id (length s.objects) (length (catalog_of s).objects) there (length-map s.objects object_info)) now
    before.old (fewer_before id before.old (catalog_of s) before.before) live before.objects renewals
  where
    is_below : (a m n : ℕ) → a < m → n ≡ m → nat_lt a n ≡ true
    is_below a m n h e = grind (arith, nat_tests, h, e)

-- what was told of a write that was prepared
pub told_below : (s t : Contents) (live : List KeptQuery) (renewals : List Renewal) (moves : List Told) (object id now : ℕ) → s ≡ t → object ≡ id →
    moves ≡ changes_of object now live renewals → id < length t.objects → HaveObjectsBefore id (catalog_of t) live →
    list_all (names_objects (length (catalog_of s).objects)) moves ≡ true
told_below s t live renewals moves object id now store same told there before =
    let of_id : moves ≡ changes_of id now live renewals = told ∙ ap (λ added. changes_of added now live renewals) same in
    (λ i. list_all (names_objects (length (catalog_of (store i)).objects)) (of_id i)) ∙ changes_below id now t live there before renewals

-- looks at timelines by what the store is
pub looks_are : (s t : Contents) (live : List KeptQuery) (now n id before after : ℕ) → s ≡ t → now ≡ n →
    after ≤ before + write_reads (catalog_of s) (map registered_query live) now (class_in s id) →
    after ≤ before + write_reads (catalog_of t) (map registered_query live) n (class_in t id)
looks_are s t live now n id before after same ticks most =
    let e : write_reads (catalog_of s) (map registered_query live) now (class_in s id) ≡ write_reads (catalog_of t) (map registered_query live) n (class_in t id)
    = λ i. write_reads (catalog_of (same i)) (map registered_query live) (ticks i) (class_in (same i) id) in
    omega (arith, e, most)
