-- The columns of a query with the object that is written, where it is a new one.
use Rattle.std.proofs.Common.{◌≡◌, ℕ, ◌+◌, ◌*◌, ◌/◌, ◌%◌, ◌<◌, ◌≤◌, Bool, true, false, ◌&&◌, ◌||◌, ◌⊎◌, Option, Some, None, List, [], ◌∷◌, ◌++◌, length, drop, refl, sym, ap, ◌∙◌, subst, inl, inr, arith, if◌then◌else◌}
use Rattle.std.specs.Prelude.{◌==◌, nat_lt, slice_get, slice_index}
use Rattle.std.specs.List.{list_any}
use Rattle.std.specs.List.Sorted.{IsStrictlyIncreasing}
use Rattle.std.specs.Option.{option_map_or}
use Rattle.std.proofs.lemmas.Bool.{and_parts, both_ways, cases_Bool, false≢true, or_left, or_right}
use Rattle.std.proofs.lemmas.Bool.Decides.{nat_tests}
use Rattle.std.proofs.lemmas.List.{take-append-drop}
use Rattle.std.proofs.lemmas.List.Folds.{list_any-append}
use Rattle.history.specs.Catalog.{Catalog, ClassInfo, capacity_of, ids_of}
use Rattle.kept_rows.specs.declared.binding.Variable.{Variable}
use Rattle.kept_rows.specs.Numbers.{counts, holds_written, size_of}
use Rattle.object_store.specs.Contents.{Contents, catalog_of, ids_in}
use Rattle.object_store.specs.Sound.{IsSound}
use Rattle.relation.specs.Key.{has_id}
use Rattle.answers.proofs.ObjectLemmas.{ids_ascend}
use Rattle.live_queries.specs.Asked.{ExtendsCatalog, class_in}
use Rattle.live_queries.specs.Columns.{AreCounted, Column, HaveCapacitiesOf, HaveObjectsOf, column_variables, columns_have, gives}
use Rattle.live_queries.specs.Prepared.{AreColumnsWith, HaveRoomFor, is_of_class}
use Rattle.live_queries.specs.Written.{AreVariablesWith, DoAscendWith, HaveObjectsWith, lacks_objects, takes_object}
use Rattle.live_queries.proofs.ColumnLemmas.{AreGrown, one_more}
use Rattle.live_queries.proofs.ObjectLemmas.{HasGrown, grown_by}
use Rattle.live_queries.proofs.PartLemmas.{class_is, class_of_variable, variable_of_class}
use Rattle.exact.proofs.Naturals.{equals_itself, same_from_equal}

-- ---- one class before and after

pub grown : (id : ℕ) (old new : Catalog) → ExtendsCatalog id old new → (class : ℕ) → HasGrown old new id class
grown id old new before class =
    let n : ℕ = length old.objects in
    grown_by old new id class before.adds (drop n new.objects)
    (sym (take-append-drop n new.objects) ∙ ap (λ front. front ++ drop n new.objects) before.objects)

last_is_there : (xs : List ℕ) (id : ℕ) → has_id (xs ++ id ∷ []) id ≡ true
last_is_there xs id = list_any-append (λ i. i == id) xs (id ∷ []) ∙ or_right (has_id xs id) ((id == id) || false) (or_left (id == id) false (equals_itself id))

no_object : (n m : ℕ) → n ≡ m → nat_lt m n ≡ false
no_object n m e = grind (arith, nat_tests, e)

some_object : (n m : ℕ) → n ≡ m + 1 → nat_lt m n ≡ true
some_object n m e = grind (arith, nat_tests, e)

module _ (s : Contents) (old : Catalog) (id : ℕ) (before : ExtendsCatalog id old (catalog_of s)) where
  abbrev new : Catalog
  new = catalog_of s

  -- another class has the objects that it had
  other_class : (class : ℕ) → (class == class_in s id) ≡ false → ids_of new class ≡ ids_of old class
  other_class class other = elim (grown id old new before class) [
    | inl same ↦ same
    | inr more ↦
        let is : class_in s id ≡ class = class_is s class id (ap (λ ids. has_id ids id) more.0 ∙ last_is_there (ids_of old class) id) in
        absurd (both_ways (class == class_in s id) other (ap (λ k. class == k) is ∙ equals_itself class))
  ]

  abbrev has_more : ℕ → Bool
  has_more class = nat_lt (length (ids_of old class)) (length (ids_of new class))

  -- and one class has one more where it has more
  its_class : (class : ℕ) (b : Bool) → has_more class ≡ b → (if b then ids_of old class ++ id ∷ [] else ids_of old class) ≡ ids_of new class
  its_class class b e = elim (grown id old new before class) [
    | inl same ↦
        ap (λ x. if x then ids_of old class ++ id ∷ [] else ids_of old class)
        (sym e ∙ no_object (length (ids_of new class)) (length (ids_of old class)) (ap length same)) ∙ sym same
    | inr more ↦
        ap (λ x. if x then ids_of old class ++ id ∷ [] else ids_of old class)
        (sym e ∙ some_object (length (ids_of new class)) (length (ids_of old class)) (ap length more.0 ∙ one_more (ids_of old class) id)) ∙ sym more.0
  ]

  module _ (classes : List ℕ) (class : ℕ) (is : class ≡ class_in s id) where
    abbrev of_class : Column → Bool
    of_class c = is_of_class classes class c.variable

    class_of_column : (c : Column) → of_class c ≡ true → slice_index classes c.variable ≡ class
    class_of_column c here = same_from_equal (slice_index classes c.variable) class (class_of_variable classes class c.variable here)

    -- a column of the class lacks the object where the class has more
    pub lack_is : (cs : List Column) → HaveObjectsOf old classes cs →
        list_any (lacks_objects classes class (length (ids_of new class))) cs ≡ (list_any of_class cs && has_more class)
    lack_is [] have = refl
    lack_is (c ∷ cs) have = elim (cases_Bool (of_class c)) [
      | inl here ↦
          first (of_class c) (has_more class) (list_any of_class cs) _ _ here
          (ap (λ ids. nat_lt (length ids) (length (ids_of new class))) (have.0 ∙ ap (ids_of old) (class_of_column c here))) (lack_is cs have.1)
      | inr other ↦
          later (of_class c) (has_more class) (list_any of_class cs) _ _ other (lack_is cs have.1)
    ]
      where
        first : (a b r l x : Bool) → a ≡ true → x ≡ b → l ≡ (r && b) → ((a && x) || l) ≡ ((a || r) && b)
        first true true r l true e f g = refl
        first true true r l false e f g = absurd (false≢true f)
        first true false r l true e f g = absurd (false≢true (sym f))
        first true false true l false e f g = g
        first true false false l false e f g = g
        first false b r l x e f g = absurd (false≢true e)

        later : (a b r l x : Bool) → a ≡ false → l ≡ (r && b) → ((a && x) || l) ≡ ((a || r) && b)
        later true b r l x e g = absurd (false≢true (sym e))
        later false b r l x e g = g

    abbrev Tells : Bool → List Column → Type 0
    Tells grows cs = list_any of_class cs ≡ true → grows ≡ has_more class

    later_tells : (grows : Bool) (c : Column) (cs : List Column) → Tells grows (c ∷ cs) → Tells grows cs
    later_tells grows c cs tells some = tells (or_right (of_class c) (list_any of_class cs) some)

    pub lack_tells : (grows : Bool) (cs : List Column) → HaveObjectsOf old classes cs →
        grows ≡ list_any (lacks_objects classes class (length (ids_of new class))) cs → Tells grows cs
    lack_tells grows cs have e some = e ∙ lack_is cs have ∙ ap (λ b. b && has_more class) some

    -- with the object its columns have the objects that there are
    pub have_with : (grows : Bool) (cs : List Column) → HaveObjectsOf old classes cs → ((v : ℕ) → columns_have cs v ≡ true → v < length classes) →
        Tells grows cs → HaveObjectsWith new grows class classes id cs
    have_with grows [] have below tells = tt
    have_with grows (c ∷ cs) have below tells = (
      elim (cases_Bool (of_class c)) [
        | inl here ↦
            let same : slice_index classes c.variable ≡ class = class_of_column c here in
            (λ i. if tells (or_left (of_class c) (list_any of_class cs) here) i && here i
            then (have.0 ∙ ap (ids_of old) same) i ++ id ∷ [] else (have.0 ∙ ap (ids_of old) same) i)
            ∙ ap (λ b. if b then ids_of old class ++ id ∷ [] else ids_of old class) (and_true (has_more class))
            ∙ its_class class (has_more class) refl
            ∙ ap (ids_of new) (sym same)
        | inr other ↦
            ap (λ b. if b then c.ids ++ id ∷ [] else c.ids) (ap (λ b. grows && b) other ∙ and_false grows)
            ∙ have.0
            ∙ sym (other_class (slice_index classes c.variable)
            (not_equal (slice_index classes c.variable) (class_in s id)
            (λ e. both_ways (of_class c) other (variable_of_class classes class c.variable (below c.variable (or_left (c.variable == c.variable) (columns_have cs c.variable) (equals_itself c.variable)))
            (ap (λ k. slice_index classes c.variable == k) (is ∙ sym e) ∙ equals_itself (slice_index classes c.variable))))))
      ],
      have_with grows cs have.1 (λ v has. below v (or_right (c.variable == v) (columns_have cs v) has)) (later_tells grows c cs tells),
    )
      where
        and_true : (b : Bool) → (b && true) ≡ b
        and_true true = refl
        and_true false = refl

        and_false : (b : Bool) → (b && false) ≡ false
        and_false true = refl
        and_false false = refl

        not_equal : (u w : ℕ) → (u ≡ w → ⊥) → (u == w) ≡ false
        not_equal u w apart = grind (arith, nat_tests, apart)

-- ---- what follows of columns that have, with the object, the objects that there are

module _ (catalog : Catalog) (grows : Bool) (class : ℕ) (classes : List ℕ) (id : ℕ) where
  pub do_ascend : (cs : List Column) → HaveObjectsWith catalog grows class classes id cs → DoAscendWith grows class classes id cs
  do_ascend [] have = tt
  do_ascend (c ∷ cs) have = (subst IsStrictlyIncreasing (sym have.0) (ids_ascend catalog (slice_index classes c.variable)), do_ascend cs have.1)

  -- there is room for the object
  pub have_room : (count : ℕ) → length (ids_of catalog class) ≡ count → (1 ≤ capacity_of catalog.classes class → count ≤ capacity_of catalog.classes class) →
      (cs : List Column) → HaveObjectsWith catalog grows class classes id cs → HaveCapacitiesOf catalog classes cs → AreCounted cs →
      grows ≡ true → HaveRoomFor class classes cs
  have_room count is room [] have capacities counted yes_grows = tt
  have_room count is room (c ∷ cs) have capacities counted yes_grows = (
    λ here.
        let same : slice_index classes c.variable ≡ class = same_from_equal (slice_index classes c.variable) class (class_of_variable classes class c.variable here) in
        let ids : c.ids ++ id ∷ [] ≡ ids_of catalog class =
        (λ i. if sym yes_grows i && sym here i then c.ids ++ id ∷ [] else c.ids) ∙ have.0 ∙ ap (ids_of catalog) same in
        let many : length (c.ids ++ id ∷ []) ≡ length (ids_of catalog class) = ap length ids in
        let longer : length (c.ids ++ id ∷ []) ≡ length c.ids + 1 = one_more c.ids id in
        let capacity : c.numbers.capacity ≡ capacity_of catalog.classes class = capacities.0 ∙ ap (capacity_of catalog.classes) same in
        let within : count ≤ capacity_of catalog.classes class = room (omega (arith, c.numbers.some, capacity)) in
        omega (arith, counted.0, many, longer, is, within, capacity),
    have_room count is room cs have.1 capacities.1 counted.1 yes_grows,
  )

  pub objects_with : (cs ds : List Column) → AreColumnsWith grows class classes id cs ds → HaveObjectsWith catalog grows class classes id cs →
      HaveObjectsOf catalog classes ds
  objects_with [] [] made have = tt
  objects_with [] (d ∷ ds) made have = absurd made
  objects_with (c ∷ cs) [] made have = absurd made
  objects_with (c ∷ cs) (d ∷ ds) made have =
      (made.0.ids ∙ have.0 ∙ ap (λ v. ids_of catalog (slice_index classes v)) (sym made.0.variable), objects_with cs ds made.1 have.1)

  pub grown_with : (cs ds : List Column) → AreCounted cs → AreColumnsWith grows class classes id cs ds → AreGrown (Unit {0}) id cs ds
  grown_with [] [] counted made = tt
  grown_with [] (d ∷ ds) counted made = made
  grown_with (c ∷ cs) [] counted made = made
  grown_with (c ∷ cs) (d ∷ ds) counted made = (
    record {
      variable = made.0.variable;
      capacity = made.0.capacity;
      old_count = counted.0;
      new_count = made.0.count;
      ids = either (takes_object grows class classes c) made.0.ids;
    },
    grown_with cs ds counted.1 made.1,
  )
    where
      either : (b : Bool) → d.ids ≡ (if b then c.ids ++ id ∷ [] else c.ids) → (d.ids ≡ c.ids) ⊎ ((d.ids ≡ c.ids ++ id ∷ []) × Unit {0})
      either true e = inr (e, tt)
      either false e = inl e

  -- ---- the numbers of bindings

  pub size_with : (cs : List Column) (vs : List Variable) → AreVariablesWith grows class classes id cs vs → size_of vs ≡ size_of (column_variables cs)
  size_with [] [] are = refl
  size_with [] (v ∷ vs) are = absurd are
  size_with (c ∷ cs) [] are = absurd are
  size_with (c ∷ cs) (v ∷ vs) are = λ i. are.0.capacity i * size_with cs vs are.1 i

  sizes_with : (cs ds : List Column) (vs : List Variable) → AreVariablesWith grows class classes id cs vs → AreColumnsWith grows class classes id cs ds →
      size_of vs ≡ size_of (column_variables ds)
  sizes_with [] [] [] are made = refl
  sizes_with [] (d ∷ ds) vs are made = absurd made
  sizes_with [] [] (v ∷ vs) are made = absurd are
  sizes_with (c ∷ cs) [] vs are made = absurd made
  sizes_with (c ∷ cs) (d ∷ ds) [] are made = absurd are
  sizes_with (c ∷ cs) (d ∷ ds) (v ∷ vs) are made = λ i. (are.0.capacity ∙ sym made.0.capacity) i * sizes_with cs ds vs are.1 made.1 i

  pub counts_with : (cs ds : List Column) (vs : List Variable) → AreVariablesWith grows class classes id cs vs → AreColumnsWith grows class classes id cs ds →
      (n : ℕ) → counts vs n ≡ counts (column_variables ds) n
  counts_with [] [] [] are made n = refl
  counts_with [] (d ∷ ds) vs are made n = absurd made
  counts_with [] [] (v ∷ vs) are made n = absurd are
  counts_with (c ∷ cs) [] vs are made n = absurd made
  counts_with (c ∷ cs) (d ∷ ds) [] are made n = absurd are
  counts_with (c ∷ cs) (d ∷ ds) (v ∷ vs) are made n =
      let width = sizes_with cs ds vs are.1 made.1 in
      (λ i. nat_lt (n / width i) ((are.0.count ∙ sym (made.0.count ∙ ap length made.0.ids)) i) && counts vs (n % width i))
      ∙ ap (λ b. nat_lt (n / size_of (column_variables ds)) d.numbers.count && b) (counts_with cs ds vs are.1 made.1 (n % size_of (column_variables ds)))

  pub holds_with : (cs ds : List Column) (vs : List Variable) → AreVariablesWith grows class classes id cs vs → AreColumnsWith grows class classes id cs ds →
      (n : ℕ) → counts (column_variables ds) n ≡ true → holds_written vs n ≡ gives ds id n
  holds_with [] [] [] are made n here = refl
  holds_with [] (d ∷ ds) vs are made n here = absurd made
  holds_with [] [] (v ∷ vs) are made n here = absurd are
  holds_with (c ∷ cs) [] vs are made n here = absurd made
  holds_with (c ∷ cs) (d ∷ ds) [] are made n here = absurd are
  holds_with (c ∷ cs) (d ∷ ds) (v ∷ vs) are made n here =
      let w : ℕ = size_of (column_variables ds) in
      let width = sizes_with cs ds vs are.1 made.1 in
      let parts = and_parts (nat_lt (n / w) d.numbers.count) (counts (column_variables ds) (n % w)) here in
      let many : v.count ≡ d.numbers.count = are.0.count ∙ sym (made.0.count ∙ ap length made.0.ids) in
      (λ i. (n / width i == v.own) || holds_written vs (n % width i))
      ∙ (λ i. (are.0.own (n / w) (subst (λ (m : ℕ). n / w < m) (sym many) (less_is (n / w) d.numbers.count parts.0))
      ∙ ap (λ ids. slice_index ids (n / w) == id) (sym made.0.ids)) i
      || holds_with cs ds vs are.1 made.1 (n % w) parts.1 i)
    where
      less_is : (u m : ℕ) → nat_lt u m ≡ true → u < m
      less_is u m h = grind (arith, nat_tests, h)

-- ---- a class has no more objects than it may have

pub within_capacity : (s : Contents) (class : ℕ) → IsSound s → (ids : List ℕ) → ids ≡ ids_in s.objects class →
    1 ≤ capacity_of (catalog_of s).classes class → length ids ≤ capacity_of (catalog_of s).classes class
within_capacity s class sound ids are some = either (slice_get s.classes class) refl
  where
    either : (o : Option ClassInfo) → slice_get s.classes class ≡ o → length ids ≤ capacity_of (catalog_of s).classes class
    either None e =
        let none : capacity_of (catalog_of s).classes class ≡ 0 = ap (λ (o : Option ClassInfo). option_map_or (λ k. k.capacity) o 0) e in
        absurd (omega (arith, none, some))
    either (Some k) e =
        let within : length (ids_in s.objects class) ≤ k.capacity = sound.objects.within class k e in
        let its : capacity_of (catalog_of s).classes class ≡ k.capacity = ap (λ (o : Option ClassInfo). option_map_or (λ i. i.capacity) o 0) e in
        let many : length ids ≡ length (ids_in s.objects class) = ap length are in
        omega (arith, within, its, many)
