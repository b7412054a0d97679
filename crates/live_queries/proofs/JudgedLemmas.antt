-- The rows that the relations of an evaluation give the bindings of columns.
use Rattle.std.proofs.Common.{◌≡◌, ℕ, ◌<◌, Bool, true, false, ◌&&◌, List, [], ◌∷◌, length, map, refl, sym, ap, ◌∙◌, subst, inl, inr, arith, if◌then◌else◌, ◌/◌, ◌%◌}
use Rattle.std.specs.Prelude.{All, ◌==◌, not, nat_le, nat_lt, slice_index}
use Rattle.std.specs.List.{flat_map, list_any}
use Rattle.std.specs.List.Sorted.{IsStrictlyIncreasing}
use Rattle.std.proofs.lemmas.Bool.{and_parts, cases_Bool, false≢true, or_cases, or_left, or_right}
use Rattle.tick_set.specs.Runs.{spans_have}
use Rattle.tick_set.specs.Ticks.{between, within}
use Rattle.tick_set.specs.declared.spans.Span.{Span}
use Rattle.geometry.specs.Region.{Region}
use Rattle.history.specs.Catalog.{Catalog, ids_of}
use Rattle.history.specs.World.{World}
use Rattle.formula.specs.Resolved.{IsResolved, are_distinct}
use Rattle.formula.specs.Tree.{ResolvedQuery}
use Rattle.kept_rows.specs.declared.binding.Variable.{Variable}
use Rattle.kept_rows.specs.Exact.{AreFullRows}
use Rattle.kept_rows.specs.Numbers.{counts, holds_written, size_of}
use Rattle.meaning.specs.Binding.{holds_full}
use Rattle.object_store.specs.Contents.{Contents, catalog_of}
use Rattle.relation.specs.Frames.{Frame, IsIn, frame, frame_of}
use Rattle.relation.specs.Key.{has_id, ids_of_variable as domain_of}
use Rattle.relation.specs.Rows.{Table, table_has}
use Rattle.atoms.specs.Asked.{world_in}
use Rattle.answers.specs.Objects.{AreOfItsClasses}
use Rattle.answers.proofs.ObjectLemmas.{domain_at, ids_ascend}
use Rattle.std.proofs.lemmas.List.{length-map}
use Rattle.live_queries.specs.declared.parts.Part.{Part}
use Rattle.live_queries.specs.declared.parts.Single.{Single}
use Rattle.live_queries.specs.Asked.{class_in}
use Rattle.live_queries.specs.Columns.{AreColumnsOf, AreCounted, Column, HaveObjectsOf, column_variables, columns_have, gives, object_at_number, object_or, order_of}
use Rattle.live_queries.specs.Numbered.{DoAscend, HaveDomains, IsOverColumns}
use Rattle.live_queries.specs.Prepared.{AreColumnsWith, is_of_class}
use Rattle.live_queries.specs.Written.{ArePartsOf, AreVariablesWith, HaveObjectsWith, parts_have, single_for}
use Rattle.live_queries.proofs.ColumnLemmas.{not_head}
use Rattle.live_queries.proofs.FormedLemmas.{are_counted, has_column, have_objects, variables_are}
use Rattle.live_queries.proofs.GrowLemmas.{counts_with, grown_with, holds_with, objects_with}
use Rattle.live_queries.proofs.MadeLemmas.{counted, same_order}
use Rattle.live_queries.proofs.OrderLemmas.{among, columns_are, order_below, order_distinct}
use Rattle.live_queries.proofs.PartLemmas.{all_singles, class_is, class_of_variable, object_of_its_class, parts_right, some_single, variable_of_class}
use Rattle.live_queries.proofs.ReadLemmas.{as_many_domains, domain_of_variable}
use Rattle.live_queries.proofs.TargetLemmas.{object_is_of_class}
use Rattle.live_queries.proofs.WriteLemmas.{added_object}
use Rattle.exact.proofs.Truths.{false_from_not, same_truth}
use Rattle.exact.proofs.Naturals.{below_from_test, equals_itself, same_from_equal, test_below}

-- ---- one relation over all variables

-- the objects of a binding are those of their variables' classes
in_domains : (w : World) (q : ResolvedQuery) (cs : List Column) → IsResolved q → AreColumnsOf w.history.catalog q.classes (order_of q) cs →
    (n : ℕ) → counts (column_variables cs) n ≡ true → IsIn (map (ids_of w.history.catalog) q.classes) (object_at_number cs n)
in_domains w q cs is are n here v below =
    let within_classes : v < length q.classes = subst (λ (m : ℕ). v < m) (length-map q.classes (ids_of w.history.catalog)) below in
    ap (λ ids. has_id ids (object_at_number cs n v)) (domain_at (ids_of w.history.catalog) q.classes v within_classes)
    ∙ object_is_of_class w q.classes cs n (are_counted w.history.catalog q.classes (order_of q) cs are)
    (have_objects w.history.catalog q.classes (order_of q) cs are) here v
    (has_column q cs is (variables_are w.history.catalog q.classes (order_of q) cs are) v within_classes)

columns_ascend : (catalog : Catalog) (classes : List ℕ) (cs : List Column) → HaveObjectsOf catalog classes cs → DoAscend cs
columns_ascend catalog classes [] have = tt
columns_ascend catalog classes (c ∷ cs) have =
    (subst IsStrictlyIncreasing (sym have.0) (ids_ascend catalog (slice_index classes c.variable)), columns_ascend catalog classes cs have.1)

have_domains : (catalog : Catalog) (classes : List ℕ) (domains : List (List ℕ)) (cs : List Column) → domains ≡ map (ids_of catalog) classes →
    HaveObjectsOf catalog classes cs → ((v : ℕ) → columns_have cs v ≡ true → v < length classes) → HaveDomains domains cs
have_domains catalog classes domains [] all have below = tt
have_domains catalog classes domains (c ∷ cs) all have below = (
  ap (λ (d : List (List ℕ)). domain_of d c.variable) all
      ∙ domain_at (ids_of catalog) classes c.variable (below c.variable (or_left (c.variable == c.variable) (columns_have cs c.variable) (equals_itself c.variable)))
      ∙ sym have.0,
  have_domains catalog classes domains cs all have.1 (λ v table_has. below v (or_right (c.variable == v) (columns_have cs v) table_has)),
)

-- its rows are those of bindings of the columns
pub is_over : (w : World) (q : ResolvedQuery) (lo hi : ℕ) (cs : List Column) (domains : List (List ℕ)) (full : Table (List Span)) →
    IsResolved q → AreColumnsOf w.history.catalog q.classes (order_of q) cs → domains ≡ map (ids_of w.history.catalog) q.classes →
    full.vars ≡ between 0 (length q.classes) → frame full ≡ frame_of domains lo hi → IsOverColumns cs full
is_over w q lo hi cs domains full is are all vars same =
    let order : map (λ (c : Column). c.variable) cs ≡ order_of q = variables_are w.history.catalog q.classes (order_of q) cs are in
    let have = have_objects w.history.catalog q.classes (order_of q) cs are in
    let below = (λ (v : ℕ) (table_has : columns_have cs v ≡ true).
    order_below q is v (ap (λ (vs : List ℕ). among vs v) (sym order) ∙ sym (columns_are cs v) ∙ table_has)) in
    record {
      ascend = columns_ascend w.history.catalog q.classes cs have;
      counted = are_counted w.history.catalog q.classes (order_of q) cs are;
      distinct = ap are_distinct order ∙ order_distinct q is;
      count = length q.classes;
      vars = vars;
      each = λ v.
          same_truth (columns_have cs v) (nat_lt v (length q.classes)) (λ table_has. test_below v (length q.classes) (below v table_has))
          (λ h. has_column q cs is order v (below_from_test v (length q.classes) h));
      domains = have_domains w.history.catalog q.classes full.domains cs (ap (λ (f : Frame). f.domains) same ∙ all) have below;
    }

pub first_rows_are : (w : World) (q : ResolvedQuery) (lo hi : ℕ) (cs : List Column) (domains : List (List ℕ)) (full : Table (List Span))
    (rows : ℕ → ℕ → Bool) → IsResolved q → AreColumnsOf w.history.catalog q.classes (order_of q) cs →
    domains ≡ map (ids_of w.history.catalog) q.classes →
    ((b : ℕ → ℕ) → IsIn domains b → (t : ℕ) → table_has spans_have full b t ≡ (within lo hi t && holds_full w q hi b t)) →
    AreFullRows rows (counts (column_variables cs)) (λ c t. table_has spans_have full (object_at_number cs c) t) →
    AreFullRows rows (counts (column_variables cs)) (λ n t. within lo hi t && holds_full w q hi (object_at_number cs n) t)
first_rows_are w q lo hi cs domains full rows is are all told judged c t =
    judged c t
    ∙ elim (cases_Bool (counts (column_variables cs) c)) [
      | inl here ↦
          ap (λ b. b && table_has spans_have full (object_at_number cs c) t) here
          ∙ told (object_at_number cs c) (subst (λ (d : List (List ℕ)). IsIn d (object_at_number cs c)) (sym all) (in_domains w q cs is are c here)) t
          ∙ ap (λ b. b && (within lo hi t && holds_full w q hi (object_at_number cs c) t)) (sym here)
      | inr other ↦
          ap (λ b. b && table_has spans_have full (object_at_number cs c) t) other
          ∙ ap (λ b. b && (within lo hi t && holds_full w q hi (object_at_number cs c) t)) (sym other)
    ]

-- ---- relations in which one variable is one object alone

-- a binding that holds an object has a variable that is this object
pub record HasObject (ds : List Column) (id n : ℕ) : Type 0 where
  pub variable : ℕ
  pub there : columns_have ds variable ≡ true
  pub object : object_at_number ds n variable ≡ id

pub given : (ds : List Column) (id n : ℕ) → are_distinct (map (λ d. d.variable) ds) ≡ true → gives ds id n ≡ true → HasObject ds id n
given [] id n distinct table_has = absurd (false≢true table_has)
given (d ∷ ds) id n distinct table_has =
    let w : ℕ = size_of (column_variables ds) in
    let apart = and_parts (not (list_any (λ (y : ℕ). y == d.variable) (map (λ (x : Column). x.variable) ds))) (are_distinct (map (λ (x : Column). x.variable) ds)) distinct in
    elim (or_cases (slice_index d.ids (n / w) == id) (gives ds id (n % w)) table_has) [
      | inl here ↦ record {
        variable = d.variable;
        there = or_left (d.variable == d.variable) (columns_have ds d.variable) (equals_itself d.variable);
        object = ap (λ b. if b then slice_index d.ids (n / w) else object_at_number ds (n % w) d.variable) (equals_itself d.variable) ∙ same_from_equal (slice_index d.ids (n / w)) id here;
      }
      | inr behind ↦
          let later = given ds id (n % w) apart.1 behind in
          record {
            variable = later.variable;
            there = or_right (d.variable == later.variable) (columns_have ds later.variable) later.there;
            object = ap (λ b. if b then slice_index d.ids (n / w) else object_at_number ds (n % w) later.variable)
                (not_head d.variable later.variable ds (false_from_not _ apart.0) later.there) ∙ later.object;
          }
    ]

-- of a query of one variable a binding that holds an object has it for this variable
pub one_object : (q : ResolvedQuery) → IsResolved q → length q.classes ≡ 1 → (ds : List Column) → map (λ d. d.variable) ds ≡ order_of q →
    (id n : ℕ) → gives ds id n ≡ true → object_at_number ds n 0 ≡ id
one_object q is one ds order id n holding =
    let found = given ds id n (ap are_distinct order ∙ order_distinct q is) holding in
    let below : found.variable < length q.classes =
    order_below q is found.variable (ap (λ (vs : List ℕ). among vs found.variable) (sym order) ∙ sym (columns_are ds found.variable) ∙ found.there) in
    let first : 0 ≡ found.variable = omega (arith, below, one) in
    ap (object_at_number ds n) first ∙ found.object

module _ (s : Contents) (regions : List Region) (q : ResolvedQuery) (is : IsResolved q) (class id : ℕ) (its : class ≡ class_in s id) where
  abbrev cat : Catalog
  cat = catalog_of s

  abbrev singles_of : List Single
  singles_of = flat_map (single_for cat q.classes class id) (between 0 (length q.classes))

  -- the objects of each part are those of their variables' classes
  pub parts_are_of_classes : id < length s.objects → (singles : List Single) → singles ≡ singles_of →
      All (λ x. AreOfItsClasses cat q x.domains) singles
  parts_are_of_classes there singles are =
      subst (All (λ x. AreOfItsClasses cat q x.domains)) (sym are)
      (all_singles cat q.classes class id (λ x. AreOfItsClasses cat q x.domains) (λ v of. record {
        many = as_many_domains cat q.classes id v;
        each = λ u object below table_has. one v u object (v == u) refl (same_from_equal (slice_index q.classes v) class (class_of_variable q.classes class v of))
            (sym (ap (λ ids. has_id ids object) (domain_of_variable cat q.classes id v u below)) ∙ table_has);
      }))
    where
      one : (v u object : ℕ) (b : Bool) → (v == u) ≡ b → slice_index q.classes v ≡ class →
          has_id (if b then id ∷ [] else ids_of cat (slice_index q.classes u)) object ≡ true → has_id (ids_of cat (slice_index q.classes u)) object ≡ true
      one v u object false e of table_has = table_has
      one v u object true e of table_has = elim (or_cases (id == object) false table_has) [
        | inl here ↦
            ap (has_id (ids_of cat (slice_index q.classes u))) (sym (same_from_equal id object here))
            ∙ ap (λ k. has_id (ids_of cat k) id) (ap (slice_index q.classes) (sym (same_from_equal v u e)) ∙ of ∙ its)
            ∙ object_of_its_class s id there
        | inr never ↦ absurd (false≢true never)
      ]

  module _ (lo hi : ℕ) (grows : Bool) (cs ds : List Column) (order : map (λ c. c.variable) cs ≡ order_of q) (are : AreCounted cs)
      (have : HaveObjectsWith cat grows class q.classes id cs) (made : AreColumnsWith grows class q.classes id cs ds)
      (singles : List Single) (all : singles ≡ singles_of) (parts : List Part) (told : ArePartsOf (world_in s regions) q lo hi singles parts)
      (n : ℕ) (here : counts (column_variables ds) n ≡ true) where
    new_order : map (λ c. c.variable) ds ≡ order_of q
    new_order = same_order grows class q.classes id cs ds made ∙ order

    of_class : (v : ℕ) → columns_have ds v ≡ true → has_id (ids_of cat (slice_index q.classes v)) (object_at_number ds n v) ≡ true
    of_class v table_has =
        object_is_of_class (world_in s regions) q.classes ds n (counted grows class q.classes id cs ds made)
        (objects_with cat grows class q.classes id cs ds made have) here v table_has

    below_classes : (v : ℕ) → columns_have ds v ≡ true → v < length q.classes
    below_classes v table_has = order_below q is v (ap (λ (vs : List ℕ). among vs v) (sym new_order) ∙ sym (columns_are ds v) ∙ table_has)

    inside : All (λ x. object_at_number ds n x.variable ≡ id → IsIn x.domains (object_at_number ds n)) singles_of
    inside =
        all_singles cat q.classes class id (λ x. object_at_number ds n x.variable ≡ id → IsIn x.domains (object_at_number ds n))
        (λ v of object u below.
        let within_classes : u < length q.classes = subst (λ (m : ℕ). u < m) (as_many_domains cat q.classes id v) below in
        ap (λ ids. has_id ids (object_at_number ds n u)) (domain_of_variable cat q.classes id v u within_classes)
        ∙ one v u (v == u) refl object within_classes)
      where
        one : (v u : ℕ) (b : Bool) → (v == u) ≡ b → object_at_number ds n v ≡ id → u < length q.classes →
            has_id (if b then id ∷ [] else ids_of cat (slice_index q.classes u)) (object_at_number ds n u) ≡ true
        one v u true e object below =
            or_left (id == object_at_number ds n u) false (ap (λ o. id == o) (ap (object_at_number ds n) (sym (same_from_equal v u e)) ∙ object) ∙ equals_itself id)
        one v u false e object below = of_class u (has_column q ds is new_order u below)

    pub judged_right : gives ds id n ≡ true → (t : ℕ) →
        parts_have parts id (object_or id cs n) t ≡ (within lo hi t && holds_full (world_in s regions) q hi (object_at_number ds n) t)
    judged_right holding t =
        let found = given ds id n (ap are_distinct new_order ∙ order_distinct q is) holding in
        let below : found.variable < length q.classes = below_classes found.variable found.there in
        let same : class_in s id ≡ slice_index q.classes found.variable =
        class_is s (slice_index q.classes found.variable) id
        (ap (has_id (ids_of cat (slice_index q.classes found.variable))) (sym found.object) ∙ of_class found.variable found.there) in
        let of : is_of_class q.classes class found.variable ≡ true =
        variable_of_class q.classes class found.variable below
        (ap (λ k. slice_index q.classes found.variable == k) (its ∙ same) ∙ equals_itself (slice_index q.classes found.variable)) in
        ap (λ (b : ℕ → ℕ). parts_have parts id b t)
        (λ i v. added_object (Unit {0}) id cs ds (grown_with cat grows class q.classes id cs ds are made) n here v i)
        ∙ parts_right (world_in s regions) q lo hi id t (object_at_number ds n) singles parts told
        (subst (All (λ x. object_at_number ds n x.variable ≡ id → IsIn x.domains (object_at_number ds n))) (sym all) inside)
        (ap (list_any (λ x. object_at_number ds n x.variable == id)) all
        ∙ some_single cat q.classes class id (object_at_number ds n) found.variable below of
        (ap (λ o. o == id) found.object ∙ equals_itself id))

  -- the rows, where the bindings that hold the object are judged right from a tick on
  pub rows_are : (lo hi from : ℕ) (grows : Bool) (cs : List Column) (vs : List Variable) → AreVariablesWith grows class q.classes id cs vs →
      (tells rows after : ℕ → ℕ → Bool) → ((c t : ℕ) → after c t ≡ (if (counts vs c && holds_written vs c) && nat_le from t then tells c t else rows c t)) →
      (ds : List Column) → AreColumnsWith grows class q.classes id cs ds →
      ((n : ℕ) → counts (column_variables ds) n ≡ true → gives ds id n ≡ true → (t : ℕ) →
      tells n t ≡ (within lo hi t && holds_full (world_in s regions) q hi (object_at_number ds n) t)) → (c t : ℕ) →
      after c t ≡ (if (counts (column_variables ds) c && gives ds id c) && nat_le from t
      then (within lo hi t && holds_full (world_in s regions) q hi (object_at_number ds c) t) else rows c t)
  rows_are lo hi from grows cs vs with_object tells rows after judged ds made right c t =
      let same_counts : counts vs c ≡ counts (column_variables ds) c = counts_with cat grows class q.classes id cs ds vs with_object made c in
      let there : Bool = within lo hi t && holds_full (world_in s regions) q hi (object_at_number ds c) t in
      judged c t
      ∙ elim (cases_Bool (counts (column_variables ds) c)) [
        | inr none ↦
            ap (λ b. if (b && holds_written vs c) && nat_le from t then tells c t else rows c t) (same_counts ∙ none)
            ∙ sym (ap (λ b. if (b && gives ds id c) && nat_le from t then there else rows c t) none)
        | inl here ↦
            (λ i. if ((same_counts ∙ here) i && holds_with cat grows class q.classes id cs ds vs with_object made c here i) && nat_le from t
            then tells c t else rows c t)
            ∙ elim (cases_Bool (gives ds id c)) [
              | inl holding ↦
                  ap (λ b. if b && nat_le from t then tells c t else rows c t) holding
                  ∙ ap (λ b. if nat_le from t then b else rows c t) (right c here holding t)
                  ∙ sym (λ i. if (here i && holding i) && nat_le from t then there else rows c t)
              | inr other ↦
                  ap (λ b. if b && nat_le from t then tells c t else rows c t) other
                  ∙ sym (λ i. if (here i && other i) && nat_le from t then there else rows c t)
            ]
      ]

  pub new_rows_are : (lo hi from : ℕ) (grows : Bool) (cs : List Column) → map (λ c. c.variable) cs ≡ order_of q → AreCounted cs →
      HaveObjectsWith cat grows class q.classes id cs → (singles : List Single) → singles ≡ singles_of →
      (parts : List Part) → ArePartsOf (world_in s regions) q lo hi singles parts → (vs : List Variable) → AreVariablesWith grows class q.classes id cs vs →
      (rows after : ℕ → ℕ → Bool) →
      ((c t : ℕ) → after c t
      ≡ (if (counts vs c && holds_written vs c) && nat_le from t then parts_have parts id (object_or id cs c) t else rows c t)) →
      (ds : List Column) → AreColumnsWith grows class q.classes id cs ds → (c t : ℕ) →
      after c t ≡ (if (counts (column_variables ds) c && gives ds id c) && nat_le from t
      then (within lo hi t && holds_full (world_in s regions) q hi (object_at_number ds c) t) else rows c t)
  new_rows_are lo hi from grows cs order are have singles all parts told vs with_object rows after judged ds made =
      rows_are lo hi from grows cs vs with_object (λ c t. parts_have parts id (object_or id cs c) t) rows after judged ds made
      (judged_right lo hi grows cs ds order are have made singles all parts told)
