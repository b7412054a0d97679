-- A write that misses a query: its object can't be where the query needs it, and the row of the object is empty.
use Rattle.std.proofs.Common.{◌≡◌, ℕ, ◌/◌, ◌%◌, ◌<◌, ◌≤◌, Bool, true, false, ◌&&◌, ◌||◌, List, [], ◌∷◌, length, map, refl, sym, ap, ◌∙◌, subst, inl, inr, arith, if◌then◌else◌}
use Rattle.std.specs.Prelude.{◌==◌, nat_le, nat_lt, slice_index}
use Rattle.std.specs.List.{enumerate_from, filter, list_any}
use Rattle.std.proofs.lemmas.Bool.{and_parts, false≢true, or_cases, or_left}
use Rattle.std.proofs.lemmas.Bool.Decides.{nat_tests}
use Rattle.std.proofs.lemmas.List.{length-map}
use Rattle.std.proofs.lemmas.List.FromFn.{length-enumerate_from}
use Rattle.std.proofs.lemmas.List.Sums.{count_by-le-length, length-filter}
use Rattle.tick_set.specs.Ticks.{within}
use Rattle.geometry.specs.Region.{Region}
use Rattle.history.specs.Catalog.{Catalog, ids_of}
use Rattle.kept_rows.specs.Numbers.{counts}
use Rattle.meaning.specs.Binding.{holds_full}
use Rattle.object_store.specs.Contents.{Contents, StoredObject, catalog_of, ids_in}
use Rattle.narrowing.specs.Needed.{Fails, told}
use Rattle.answers.proofs.NarrowLemmas.{never_there}
use Rattle.atoms.specs.Asked.{world_in}
use Rattle.live_queries.specs.declared.lone.Lone.{Lone}
use Rattle.live_queries.specs.declared.written.Written.{Written}
use Rattle.live_queries.specs.Asked.{ExtendsCatalog}
use Rattle.live_queries.specs.Columns.{AreCounted, Column, HaveObjectsOf, column_variables, columns_have, gives, object_at_number, order_of}
use Rattle.live_queries.specs.Current.{row_at}
use Rattle.live_queries.specs.Kept.{IsKeptQuery, KeptQuery}
use Rattle.live_queries.specs.Lone.{IsLone}
use Rattle.live_queries.specs.Missed.{IsClearOf, IsOfContents}
use Rattle.live_queries.specs.Prepared.{AreColumnsWith, IsFreshFor, is_of_class}
use Rattle.live_queries.specs.Renewed.{judged_from}
use Rattle.live_queries.specs.Untouched.{untouched}
use Rattle.live_queries.specs.Written.{HaveObjectsWith, lacks_objects}
use Rattle.live_queries.proofs.AnewLemmas.{alive_rows, renewed_objects}
use Rattle.live_queries.proofs.GrowLemmas.{objects_with}
use Rattle.live_queries.proofs.JudgedLemmas.{one_object}
use Rattle.live_queries.proofs.MadeLemmas.{counted, same_order}
use Rattle.live_queries.proofs.OrderLemmas.{among, columns_are, order_below}
use Rattle.exact.proofs.Naturals.{below_from_test, equals_itself, same_from_equal}

-- ---- a query of one variable

-- a column with as many objects as there are lacks none
no_fewer : (is_its : Bool) (has most : ℕ) → most ≤ has → ((is_its && nat_lt has most) || false) ≡ false
no_fewer true has most many = grind (arith, nat_tests, many)
no_fewer false has most many = refl

lacks_none : (classes : List ℕ) (class count : ℕ) (columns : List Column) (lone : Lone) → IsLone classes columns lone → count ≤ lone.count →
    list_any (lacks_objects classes class count) columns ≡ false
lacks_none classes class count [] lone is many = refl
lacks_none classes class count (c ∷ d ∷ cs) lone is many = absurd (omega (arith, ap length is.count))
lacks_none classes class count (c ∷ []) lone is many =
    let has : length c.ids ≡ lone.count = (λ i. slice_index (is.count i) 0) in
    no_fewer (is_of_class classes class c.variable) (length c.ids) count (omega (arith, has, many))

-- what is told of it without a look at its columns
pub clear_of_lone : (o : Written) (k : KeptQuery) (lone : Lone) → IsLone k.query.classes k.columns lone → lone.class ≡ o.class → o.count ≤ lone.count →
    ((t : ℕ) → row_at k o.place t ≡ false) → IsClearOf o k
clear_of_lone o k lone is class count clear = record {
  alone = is.class ∙ ap (λ (n : ℕ). n ∷ []) class;
  one = sym (length-map k.columns (λ (c : Column). length c.ids)) ∙ ap length is.count;
  all = lacks_none k.query.classes o.class o.count k.columns lone is count;
  clear = clear;
}

-- ---- the place of the object

-- a class has no more objects than there are
pub few_of_class : (objects : List StoredObject) (class : ℕ) → length (ids_in objects class) ≤ length objects
few_of_class objects class =
    let is_its : (ℕ × StoredObject) → Bool = λ e. e.1.class == class in
    let all : List (ℕ × StoredObject) = enumerate_from 0 objects in
    let mapped : length (ids_in objects class) ≡ length (filter is_its all) = length-map (filter is_its all) (λ (e : ℕ × StoredObject). e.0) in
    let found : length (filter is_its all) ≤ length all = subst (λ (n : ℕ). n ≤ length all) (sym (length-filter is_its all)) (count_by-le-length is_its all) in
    let many : length all ≡ length objects = length-enumerate_from 0 objects in
    omega (arith, mapped, found, many)

-- ---- one column

if_either : (b : Bool) (x y z : Bool) → (b ≡ true → z ≡ x) → z ≡ y → z ≡ (if b then x else y)
if_either true x y z first second = first refl
if_either false x y z first second = second

-- the number of the binding that holds the object is its place
number_is_place : (ids : List ℕ) (id place : ℕ) → ((p : ℕ) → p < length ids → (p == place) ≡ (slice_index ids p == id)) →
    (ds : List Column) → length ds ≡ 1 → AreCounted ds → ((d : Column) → ds ≡ d ∷ [] → d.ids ≡ ids) →
    (n : ℕ) → counts (column_variables ds) n ≡ true → gives ds id n ≡ true → n ≡ place
number_is_place ids id place its [] one are same n here holding = absurd (omega (arith, one))
number_is_place ids id place its (d ∷ e ∷ ds) one are same n here holding = absurd (omega (arith, one))
number_is_place ids id place its (d ∷ []) one are same n here holding =
    let equals_itself : d.ids ≡ ids = same d refl in
    let whole : n / 1 ≡ n = omega arith in
    let below : n < d.numbers.count =
    subst (λ (m : ℕ). m < d.numbers.count) whole
    (below_from_test (n / 1) d.numbers.count (and_parts (nat_lt (n / 1) d.numbers.count) (counts [] (n % 1)) here).0) in
    let many : d.numbers.count ≡ length ids = are.0 ∙ ap length equals_itself in
    let found : (slice_index d.ids n == id) ≡ true =
    elim (or_cases (slice_index d.ids n == id) false (ap (λ (m : ℕ). (slice_index d.ids m == id) || false) (sym whole) ∙ holding)) [
      | inl here_it_is ↦ here_it_is
      | inr never ↦ absurd (false≢true never)
    ] in
    same_from_equal n place (its n (omega (arith, below, many)) ∙ sym (ap (λ (xs : List ℕ). slice_index xs n == id) equals_itself) ∙ found)

-- ---- nothing changes of the query

module _ (s : Contents) (regions : List Region) (o : Written) (written : IsOfContents s o) (now lo : ℕ) (k : KeptQuery) (is : IsKeptQuery k) (clear : IsClearOf o k)
    (old : Catalog) (before : ExtendsCatalog o.id old (catalog_of s)) (have : HaveObjectsOf old k.query.classes k.columns) where
  with_objects : HaveObjectsWith (catalog_of s) false o.class k.query.classes o.id k.columns
  with_objects =
      renewed_objects s o.id o.class written.class k is old before have false k.query.classes refl k.columns refl o.count written.count (sym clear.all)

  module _ (alive : now ≤ k.expiry) (judged : (t : ℕ) → judged_from k now ≤ t → nat_le lo t ≡ nat_le k.entry t)
      (fails : (b : ℕ → ℕ) → b 0 ≡ o.id → Fails (told s regions b) lo k.expiry k.query.formula)
      (ds : List Column) (made : AreColumnsWith false o.class k.query.classes o.id k.columns ds) where
    one_column : length ds ≡ 1
    one_column =
        sym (length-map ds (λ (d : Column). d.variable))
        ∙ ap length (same_order false o.class k.query.classes o.id k.columns ds made)
        ∙ length-map k.columns (λ (c : Column). c.variable) ∙ clear.one

    its_objects : (d : Column) → ds ≡ d ∷ [] → d.ids ≡ ids_of (catalog_of s) o.class
    its_objects d only =
        let order : map (λ (d : Column). d.variable) ds ≡ order_of k.query =
        same_order false o.class k.query.classes o.id k.columns ds made ∙ is.order in
        let has : columns_have ds d.variable ≡ true =
        subst (λ (cs : List Column). columns_have cs d.variable ≡ true) (sym only) (or_left (d.variable == d.variable) false (equals_itself d.variable)) in
        let below : d.variable < length k.query.classes =
        order_below k.query is.resolved d.variable (ap (λ (vs : List ℕ). among vs d.variable) (sym order) ∙ sym (columns_are ds d.variable) ∙ has) in
        let one : length k.query.classes ≡ 1 = ap length clear.alone in
        let first : d.variable ≡ 0 = omega (arith, below, one) in
        (subst (λ (cs : List Column). HaveObjectsOf (catalog_of s) k.query.classes cs) only
        (objects_with (catalog_of s) false o.class k.query.classes o.id k.columns ds made with_objects)).0
        ∙ ap (ids_of (catalog_of s)) (λ i. slice_index (clear.alone i) (first i))

    rows_stay : (c t : ℕ) → row_at k c t ≡ (if (counts (column_variables ds) c && gives ds o.id c) && nat_le (judged_from k now) t
        then (within lo k.expiry t && holds_full (world_in s regions) k.query k.expiry (object_at_number ds c) t) else row_at k c t)
    rows_stay c t =
        if_either ((counts (column_variables ds) c && gives ds o.id c) && nat_le (judged_from k now) t)
        (within lo k.expiry t && holds_full (world_in s regions) k.query k.expiry (object_at_number ds c) t) (row_at k c t) (row_at k c t)
        (λ here.
        let both = and_parts (counts (column_variables ds) c) (gives ds o.id c)
        (and_parts (counts (column_variables ds) c && gives ds o.id c) (nat_le (judged_from k now) t) here).0 in
        let place : c ≡ o.place =
        number_is_place (ids_of (catalog_of s) o.class) o.id o.place (λ p h. written.place p (subst (λ (n : ℕ). p < n) (sym written.count) h)) ds one_column
        (counted false o.class k.query.classes o.id k.columns ds made) its_objects c both.0 both.1 in
        let its : object_at_number ds c 0 ≡ o.id =
        one_object k.query is.resolved (ap length clear.alone) ds
        (same_order false o.class k.query.classes o.id k.columns ds made ∙ is.order) o.id c both.1 in
        ap (λ (n : ℕ). row_at k n t) place ∙ clear.clear t
        ∙ sym (never_there (told s regions) (world_in s regions) k.query lo k.expiry (object_at_number ds c) (fails (object_at_number ds c) its) t))
        refl

  pub missed : now ≤ k.expiry → ((t : ℕ) → judged_from k now ≤ t → nat_le lo t ≡ nat_le k.entry t) →
      ((b : ℕ → ℕ) → b 0 ≡ o.id → Fails (told s regions b) lo k.expiry k.query.formula) → IsFreshFor (world_in s regions) o.id o.class now k untouched
  missed alive judged fails = record {
    objects = λ ds made. objects_with (catalog_of s) false o.class k.query.classes o.id k.columns ds made with_objects;
    rows = alive_rows (world_in s regions) false o.id o.class now lo (judged_from k now) k [] alive judged (λ t told. refl) (rows_stay alive judged fails);
  }
