-- What a write changes for the targets of a query that is current before and after it.
use Rattle.std.proofs.Common.{◌≡◌, ℕ, zero, suc, ◌+◌, ◌*◌, ◌/◌, ◌%◌, ◌<◌, ◌≤◌, Bool, true, false, not, ◌&&◌, Option, None, Some, List, [], ◌∷◌, ◌++◌, length, map, take, drop, refl, sym, ap, ◌∙◌, subst, inl, inr, arith, if◌then◌else◌}
use Rattle.std.specs.Prelude.{◌==◌, nat_le, nat_lt, slice_index, slice_index_or}
use Rattle.std.specs.List.{enumerate_from, filter, filter_map, list_all, list_any}
use Rattle.std.specs.Str.{bytes_eq}
use Rattle.std.specs.Option.{option_map}
use Rattle.std.proofs.lemmas.Bool.{and_parts, both_ways, cases_Bool, false_from_ne_true, false≢true, or_cases}
use Rattle.std.proofs.lemmas.Bool.Decides.{nat_tests}
use Rattle.exact.proofs.Lists.{bytes_eq_true}
use Rattle.exact.proofs.Truths.{and_not}
use Rattle.exact.proofs.Naturals.{below_from_test, same_from_equal}
use Rattle.tick_set.specs.Runs.{runs_of, spans_have, with_tick}
use Rattle.tick_set.specs.TickList.{has}
use Rattle.tick_set.specs.Ticks.{AgreeIn, between, listed, within}
use Rattle.tick_set.specs.declared.spans.Span.{Span}
use Rattle.tick_set.proofs.Between.{within_from}
use Rattle.tick_set.proofs.CallerLemmas.{has_listed, same_listed}
use Rattle.geometry.specs.Region.{Region}
use Rattle.history.specs.Catalog.{ObjectInfo, ids_of}
use Rattle.history.specs.History.{ChangesFrom, History}
use Rattle.history.specs.World.{World}
use Rattle.formula.specs.Resolved.{are_distinct, is_list_of}
use Rattle.formula_shape.specs.declared.limits.TheConstants.{OBJECT_LIMIT}
use Rattle.kept_rows.specs.declared.change.Change.{Change as RowChange}
use Rattle.kept_rows.specs.Changes.{rows_after}
use Rattle.kept_rows.specs.Listing.{lines_between, lines_upto, target_has}
use Rattle.kept_rows.specs.Moves.{difference, if_moved, move_between, move_of}
use Rattle.kept_rows.specs.Numbers.{counts, size_of}
use Rattle.kept_rows.proofs.ListingLemmas.{listed-none}
use Rattle.kept_rows.proofs.NumberLemmas.{size-some}
use Rattle.meaning.specs.Agreement.{world_with}
use Rattle.meaning.specs.Binding.{holds_full, holds_target, tuple_of, tuples}
use Rattle.meaning.specs.Registered.{Change, change_of, changes_of_write, is_change}
use Rattle.live_queries.specs.Columns.{Column, column_variables, gives, object_at_number, object_or}
use Rattle.live_queries.specs.Current.{IsCurrentFor, row_at, told_from}
use Rattle.live_queries.specs.Kept.{IsKeptQuery, KeptQuery, registered_query}
use Rattle.live_queries.specs.Renewed.{AddsAtMost, IsRenewed}
use Rattle.live_queries.specs.Told.{Told, key_of, move, moves_of, target_count, target_width, told_changes}
use Rattle.live_queries.proofs.AnswerLemmas.{filter_mapped, first_after, first_before, listed_targets, mapped_filtered, told}
use Rattle.live_queries.proofs.ColumnLemmas.{AreGrown, IsGrown, column_cases, counts_more, new_or_before, same_size}
use Rattle.live_queries.proofs.CurrentLemmas.{columns_grow}
use Rattle.live_queries.proofs.JoinedLemmas.{each_object, has_id, objects_are}
use Rattle.live_queries.proofs.NumberingLemmas.{at_number, between_none, between_same, objects_at}
use Rattle.live_queries.proofs.ObjectLemmas.{ids_from, is_in_class}
use Rattle.live_queries.proofs.OrderLemmas.{all_less}
use Rattle.live_queries.proofs.ProductLemmas.{any_product_found, chosen_at}
use Rattle.live_queries.proofs.TargetLemmas.{front_has, no_times, target_objects, target_variables, times_are}

-- ---- runs

no_item : {A : Type 0} (x : A) (xs : List A) → x ∷ xs ≡ [] → ⊥
no_item x xs e = let l : length (x ∷ xs) ≡ 0 = ap length e in omega (arith, l)

some_run : (t : ℕ) (runs : List (ℕ × ℕ)) → with_tick t runs ≡ [] → ⊥
some_run t [] e = no_item (t, t) [] e
some_run t (r ∷ runs) e = either (r.0 == t + 1) e
  where
    either : (b : Bool) → (if b then (t, r.1) ∷ runs else (t, t) ∷ (r.0, r.1) ∷ runs) ≡ [] → ⊥
    either true f = no_item (t, r.1) runs f
    either false f = no_item (t, t) ((r.0, r.1) ∷ runs) f

no_ticks : (ts : List ℕ) → runs_of ts ≡ [] → ts ≡ []
no_ticks [] e = refl
no_ticks (t ∷ ts) e = absurd (some_run t (runs_of ts) e)

none_inside : (p : ℕ → Bool) (lo hi t : ℕ) → within lo hi t ≡ true → runs_of (listed p lo hi) ≡ [] → p t ≡ false
none_inside p lo hi t inside none =
    ap (λ b. b && p t) (sym inside) ∙ sym (has_listed p lo hi t) ∙ ap (λ ts. has ts t) (no_ticks (listed p lo hi) none)

all_false : (p : ℕ → Bool) (lo hi : ℕ) → AgreeIn lo hi p (λ t. false) → runs_of (listed p lo hi) ≡ []
all_false p lo hi none = ap runs_of (same_listed p (λ t. false) lo hi none ∙ listed-none (λ t. false) lo hi (λ t. refl))

-- ---- one target

abbrev changed : List ℕ → List (ℕ × ℕ) → List (ℕ × ℕ) → Bool → Bool → Change
changed key gained lost enters leaves = record { key = key; gained = gained; lost = lost; enters = enters; leaves = leaves }

abbrev if_change : Change → Option Change
if_change c = if is_change c then Some c else None

one_change : (added : ℕ) (k : KeptQuery) (n : ℕ) (key : List ℕ) → key_of added k n ≡ key → (gained lost : List (ℕ × ℕ)) (enters leaves : Bool) →
    (gained ≡ [] → enters ≡ false) → (lost ≡ [] → leaves ≡ false) →
    option_map (move added k) (if_moved (record { target = n; gained = gained; lost = lost; enters = enters; leaves = leaves }) gained lost)
    ≡ option_map (told k) (if_change (changed key gained lost enters leaves))
one_change added k n key e [] [] enters leaves not_in not_out =
    sym (λ i. option_map (told k) (if_change (changed key [] [] (not_in refl i) (not_out refl i))))
one_change added k n key e [] (r ∷ lost) enters leaves not_in not_out = ap (λ own_key. Some (told k (changed own_key [] (r ∷ lost) enters leaves))) e
one_change added k n key e (r ∷ gained) lost enters leaves not_in not_out = ap (λ own_key. Some (told k (changed own_key (r ∷ gained) lost enters leaves))) e

-- a target that has the ticks p before and q after, and by the meaning p' and q'
module _ (p q p' q' : ℕ → Bool) (from e now : ℕ) (inside : within from e now ≡ true) (stands_now : nat_le now e ≡ true)
    (before : AgreeIn from e p p') (rows_after : AgreeIn from e q q') where
  gains : difference q p from e ≡ runs_of (listed (λ t. q' t && not (p' t)) from e)
  gains = ap runs_of (same_listed (λ t. q t && not (p t)) (λ t. q' t && not (p' t)) from e (λ t a b i. rows_after t a b i && not (before t a b i)))

  loses : difference p q from e ≡ runs_of (listed (λ t. p' t && not (q' t)) from e)
  loses = ap runs_of (same_listed (λ t. p t && not (q t)) (λ t. p' t && not (q' t)) from e (λ t a b i. before t a b i && not (rows_after t a b i)))

  parts : (nat_le from now ≡ true) × (nat_le now e ≡ true)
  parts = and_parts (nat_le from now) (nat_le now e) inside

  le_is : (u w : ℕ) → nat_le u w ≡ true → u ≤ w
  le_is u w h = grind (arith, nat_tests, h)

  p_now : p now ≡ p' now
  p_now = before now (le_is from now parts.0) (le_is now e parts.1)

  q_now : q now ≡ q' now
  q_now = rows_after now (le_is from now parts.0) (le_is now e parts.1)

  pub change_is : (added : ℕ) (k : KeptQuery) (n : ℕ) (key : List ℕ) → key_of added k n ≡ key →
      option_map (move added k) (move_between p q from e now n) ≡ option_map (told k) (if_change (change_of key p' q' now from e))
  change_is added k n key own_key =
      (λ i. option_map (move added k) (if_moved (record {
        target = n;
        gained = gains i;
        lost = loses i;
        enters = inside i && (q_now i && not (p_now i));
        leaves = inside i && (p_now i && not (q_now i));
      }) (gains i) (loses i)))
      ∙ one_change added k n key own_key (runs_of (listed (λ t. q' t && not (p' t)) from e)) (runs_of (listed (λ t. p' t && not (q' t)) from e))
      (q' now && not (p' now)) (p' now && not (q' now))
      (λ none. none_inside (λ t. q' t && not (p' t)) from e now inside none) (λ none. none_inside (λ t. p' t && not (q' t)) from e now inside none)
      ∙ sym (λ i. option_map (told k) (if_change (changed key (runs_of (listed (λ t. q' t && not (p' t)) from e)) (runs_of (listed (λ t. p' t && not (q' t)) from e))
      ((stands_now i && q' now) && not (stands_now i && p' now)) ((stands_now i && p' now) && not (stands_now i && q' now)))))

-- what changes is told by the ticks of the window alone
same_move : (p q p' q' : ℕ → Bool) (from e now n : ℕ) → AgreeIn from e p p' → AgreeIn from e q q' →
    move_between p q from e now n ≡ move_between p' q' from e now n
same_move p q p' q' from e now n before rows_after =
    λ i. if_moved (record {
      target = n;
      gained = gains i;
      lost = loses i;
      enters = inside (λ t a b. λ j. rows_after t a b j && not (before t a b j)) i;
      leaves = inside (λ t a b. λ j. before t a b j && not (rows_after t a b j)) i;
    }) (gains i) (loses i)
  where
    gains : difference q p from e ≡ difference q' p' from e
    gains = ap runs_of (same_listed (λ t. q t && not (p t)) (λ t. q' t && not (p' t)) from e (λ t a b i. rows_after t a b i && not (before t a b i)))

    loses : difference p q from e ≡ difference p' q' from e
    loses = ap runs_of (same_listed (λ t. p t && not (q t)) (λ t. p' t && not (q' t)) from e (λ t a b i. before t a b i && not (rows_after t a b i)))

    le_is : (u w : ℕ) → nat_le u w ≡ true → u ≤ w
    le_is u w h = grind (arith, nat_tests, h)

    inside : {f g : ℕ → Bool} → AgreeIn from e f g → (within from e now && f now) ≡ (within from e now && g now)
    inside {f} {g} same = elim (cases_Bool (within from e now)) [
      | inl here ↦
          let parts = and_parts (nat_le from now) (nat_le now e) here in
          ap (λ b. within from e now && b) (same now (le_is from now parts.0) (le_is now e parts.1))
      | inr out ↦ ap (λ b. b && f now) out ∙ sym (ap (λ b. b && g now) out)
    ]

-- ---- columns before and after

in_range : (xs : List ℕ) (p d e : ℕ) → p < length xs → slice_index_or xs p d ≡ slice_index_or xs p e
in_range [] p d e below = absurd (omega (arith, below))
in_range (x ∷ xs) zero d e below = refl
in_range (x ∷ xs) (suc p) d e below = in_range xs p d e (omega (arith, below))

last_or : (xs : List ℕ) (id p : ℕ) → p < length xs + 1 → slice_index_or xs p id ≡ slice_index (xs ++ id ∷ []) p
last_or [] id zero below = refl
last_or [] id (suc p) below = absurd (omega (arith, below))
last_or (x ∷ xs) id zero below = refl
last_or (x ∷ xs) id (suc p) below = last_or xs id p (omega (arith, below))

one_longer : (xs : List ℕ) (id : ℕ) → length (xs ++ id ∷ []) ≡ length xs + 1
one_longer [] id = refl
one_longer (x ∷ xs) id = let e : length (xs ++ id ∷ []) ≡ length xs + 1 = one_longer xs id in omega (arith, e)

added_in_column : (New : Type 0) (id : ℕ) (c d : Column) → IsGrown New id c d → (p : ℕ) → nat_lt p d.numbers.count ≡ true →
    slice_index_or c.ids p id ≡ slice_index d.ids p
added_in_column New id c d grown p there = elim grown.ids [
  | inl same ↦
      in_range c.ids p id 0 (subst (λ (m : ℕ). p < m) (grown.new_count ∙ ap length same) (below_from_test p d.numbers.count there))
      ∙ ap (λ ids. slice_index ids p) (sym same)
  | inr more ↦
      last_or c.ids id p (subst (λ (m : ℕ). p < m) (grown.new_count ∙ ap length more.0 ∙ one_longer c.ids id) (below_from_test p d.numbers.count there))
      ∙ ap (λ ids. slice_index ids p) (sym more.0)
]

-- the object that is added stands at the place past the last
pub added_object : (New : Type 0) (id : ℕ) (cs ds : List Column) → AreGrown New id cs ds → (n : ℕ) → counts (column_variables ds) n ≡ true → (v : ℕ) →
    object_or id cs n v ≡ object_at_number ds n v
added_object New id [] [] grown n there v = refl
added_object New id [] (d ∷ ds) grown n there v = absurd grown
added_object New id (c ∷ cs) [] grown n there v = absurd grown
added_object New id (c ∷ cs) (d ∷ ds) grown n there v =
    let w : ℕ = size_of (column_variables ds) in
    let e : size_of (column_variables ds) ≡ size_of (column_variables cs) = same_size New id cs ds grown.1 in
    let parted = and_parts (nat_lt (n / w) d.numbers.count) (counts (column_variables ds) (n % w)) there in
    (λ i. if v == sym grown.0.variable i then slice_index_or c.ids (n / sym e i) id else object_or id cs (n % sym e i) v)
    ∙ (λ i. if v == d.variable then added_in_column New id c d grown.0 (n / w) parted.0 i else added_object New id cs ds grown.1 (n % w) parted.1 v i)

same_key : (New : Type 0) (id : ℕ) (cs ds : List Column) → AreGrown New id cs ds → (n : ℕ) → counts (column_variables cs) n ≡ true →
    counts (column_variables ds) n ≡ true → objects_at ds n ≡ objects_at cs n
same_key New id [] [] grown n old new = refl
same_key New id [] (d ∷ ds) grown n old new = absurd grown
same_key New id (c ∷ cs) [] grown n old new = absurd grown
same_key New id (c ∷ cs) (d ∷ ds) grown n old new =
    let w : ℕ = size_of (column_variables ds) in
    let e : size_of (column_variables ds) ≡ size_of (column_variables cs) = same_size New id cs ds grown.1 in
    let was = and_parts (nat_lt (n / size_of (column_variables cs)) c.numbers.count) (counts (column_variables cs) (n % size_of (column_variables cs))) old in
    let is = and_parts (nat_lt (n / w) d.numbers.count) (counts (column_variables ds) (n % w)) new in
    (λ i. here (n / w) is.0 (ap (λ m. nat_lt (n / m) c.numbers.count) e ∙ was.0) i
    ∷ same_key New id cs ds grown.1 (n % w) (ap (λ m. counts (column_variables cs) (n % m)) e ∙ was.1) is.1 i)
    ∙ (λ i. slice_index c.ids (n / e i) ∷ objects_at cs (n % e i))
  where
    here : (p : ℕ) → nat_lt p d.numbers.count ≡ true → nat_lt p c.numbers.count ≡ true → slice_index d.ids p ≡ slice_index c.ids p
    here p is was = elim (column_cases New id c d grown.0 p is) [
      | inl same ↦ same.1
      | inr anew ↦ absurd (both_ways (nat_lt p c.numbers.count) anew.0 was)
    ]

grown_front : (New : Type 0) (id m : ℕ) (cs ds : List Column) → AreGrown New id cs ds → AreGrown New id (take m cs) (take m ds)
grown_front New id zero cs ds grown = tt
grown_front New id (suc m) [] [] grown = tt
grown_front New id (suc m) [] (d ∷ ds) grown = grown
grown_front New id (suc m) (c ∷ cs) [] grown = grown
grown_front New id (suc m) (c ∷ cs) (d ∷ ds) grown = (grown.0, grown_front New id m cs ds grown.1)

grown_back : (New : Type 0) (id m : ℕ) (cs ds : List Column) → AreGrown New id cs ds → AreGrown New id (drop m cs) (drop m ds)
grown_back New id zero [] [] grown = tt
grown_back New id zero [] (d ∷ ds) grown = grown
grown_back New id zero (c ∷ cs) [] grown = grown
grown_back New id zero (c ∷ cs) (d ∷ ds) grown = grown
grown_back New id (suc m) [] [] grown = tt
grown_back New id (suc m) [] (d ∷ ds) grown = absurd grown
grown_back New id (suc m) (c ∷ cs) [] grown = absurd grown
grown_back New id (suc m) (c ∷ cs) (d ∷ ds) grown = grown_back New id m cs ds grown.1

-- ---- a query before and after, which differ in their columns and rows alone

abbrev pub with_parts : KeptQuery → List Column → List (List (List Span)) → KeptQuery
with_parts k ds pages = record k { columns = ds; pages = pages }

module _ (old new : World) (k : KeptQuery) (ds : List Column) (pages : List (List (List Span))) (id : ℕ) (New : Type 0)
    (now : ℕ) (is : IsKeptQuery k) (is' : IsKeptQuery (with_parts k ds pages)) (current : IsCurrentFor old now k) (current' : IsCurrentFor new now (with_parts k ds pages))
    (grown : AreGrown New id k.columns ds) (none : New → (class : ℕ) → has_id (ids_of old.history.catalog class) id ≡ false) where
  abbrev k' : KeptQuery
  k' = with_parts k ds pages

  abbrev fronts : List Column
  fronts = take (length k.query.targets) k.columns

  abbrev fronts' : List Column
  fronts' = take (length k.query.targets) ds

  fronts_grow : AreGrown New id fronts fronts'
  fronts_grow = grown_front New id (length k.query.targets) k.columns ds grown

  same_count : target_count k' ≡ target_count k
  same_count = same_size New id fronts fronts' fronts_grow

  same_width : target_width k' ≡ target_width k
  same_width = same_size New id (drop (length k.query.targets) k.columns) (drop (length k.query.targets) ds) (grown_back New id (length k.query.targets) k.columns ds grown)

  distinct : are_distinct (map (λ c. c.variable) fronts') ≡ true
  distinct = ap are_distinct (target_variables new now k' is' current') ∙ is'.resolved.differ

  module _ (n : ℕ) (few : n < target_count k) where
    few' : n < target_count k'
    few' = subst (λ (m : ℕ). n < m) (sym same_count) few

    added_key : counts (column_variables fronts') n ≡ true → key_of id k n ≡ objects_at fronts' n
    added_key there =
        ap (λ m. map (object_or id k.columns m) k.query.targets) (let e : n * target_width k ≡ n * target_width k + 0 = omega arith in e)
        ∙ target_objects old now k is current n few id 0 (size-some (column_variables (drop (length k.query.targets) k.columns))) k.query.targets
        (λ v has. front_has old now k is current v ∙ has)
        ∙ (λ i. map (λ v. added_object New id fronts fronts' fronts_grow n there v i) k.query.targets)
        ∙ ap (map (object_at_number fronts' n)) (sym (target_variables new now k' is' current'))
        ∙ objects_are fronts' n distinct

    module _ (there : counts (column_variables fronts') n ≡ true) (t : ℕ) (told_later : told_from k now ≤ t) (inside : within k.entry k.expiry t ≡ true) where
      abbrev key : List ℕ
      key = objects_at fronts' n

      after_times : target_has (row_at k') (target_width k') n t ≡ holds_target new k.query k.expiry key t
      after_times = times_are new now k' is' current' n few' there t told_later inside

      -- no binding from before has the object that wasn't there
      no_old : counts (column_variables fronts) n ≡ false → holds_target old k.query k.expiry key t ≡ false
      no_old out = false_from_ne_true (holds_target old k.query k.expiry key t) (λ holds.
          let found = any_product_found (λ b. bytes_eq (tuple_of k.query b) key && holds_full old k.query k.expiry (slice_index b) t)
          (map (ids_of old.history.catalog) k.query.classes) holds in
          let f : ℕ → ℕ = slice_index found.binding in
          let tuple : key ≡ map f (map (λ c. c.variable) fronts') =
          sym (bytes_eq_true (tuple_of k.query found.binding) key
          (and_parts (bytes_eq (tuple_of k.query found.binding) key) (holds_full old k.query k.expiry f t) found.passes).0)
          ∙ ap (map f) (sym (target_variables new now k' is' current')) in
          elim (new_or_before New id fronts fronts' fronts_grow distinct n there) [
            | inl anew ↦
                let class : ℕ = slice_index k.query.classes anew.variable in
                both_ways (has_id (ids_of old.history.catalog class) id) (none anew.new class)
                (ap (has_id (ids_of old.history.catalog class)) (sym anew.object ∙ each_object fronts' n f tuple anew.variable anew.there)
                ∙ chosen_at (ids_of old.history.catalog) k.query.classes found.binding found.chosen anew.variable
                (all_less (length k.query.classes) k.query.targets anew.variable
                (and_parts (is_list_of OBJECT_LIMIT k.query.targets) (list_all (λ u. nat_lt u (length k.query.classes)) k.query.targets) is.resolved.targets).1
                (sym (front_has new now k' is' current' anew.variable) ∙ anew.there)))
            | inr before ↦ both_ways (counts (column_variables fronts) n) out before.0
          ])

      before_times : target_has (row_at k) (target_width k) n t ≡ holds_target old k.query k.expiry key t
      before_times = elim (cases_Bool (counts (column_variables fronts) n)) [
        | inl was ↦
            times_are old now k is current n few was t told_later inside
            ∙ ap (λ own_key. holds_target old k.query k.expiry own_key t) (sym (same_key New id fronts fronts' fronts_grow n was there))
        | inr out ↦ no_times old now k is current n few out t told_later ∙ sym (no_old out)
      ]

  -- ---- all targets
  module _ (rows : ℕ → ℕ → Bool) (same_rows : (c t : ℕ) → rows c t ≡ row_at k' c t) (entered : k.entry ≤ now) where
    abbrev from : ℕ
    from = told_from k now

    abbrev became : List ℕ → Change
    became key = change_of key (holds_target old k.query k.expiry key) (holds_target new k.query k.expiry key) now from k.expiry

    abbrev told_key : List ℕ → Option Told
    told_key key = option_map (told k) (if_change (became key))

    in_window : (t : ℕ) → from ≤ t → t ≤ k.expiry → within k.entry k.expiry t ≡ true
    in_window t a b = within_from k.entry k.expiry t (later k.entry from t (first_after k.kind k.entry now entered) a) b
      where
        later : (u v w : ℕ) → u ≤ v → v ≤ w → u ≤ w
        later u v w h l = omega (arith, h, l)

    rows_times : (n t : ℕ) → target_has rows (target_width k) n t ≡ target_has (row_at k') (target_width k') n t
    rows_times n t = λ i. target_has (λ c u. same_rows c u i) (sym same_width i) n t

    up_to : (u w : ℕ) → nat_le u w ≡ true → u ≤ w
    up_to u w h = grind (arith, nat_tests, h)

    no_front : (n : ℕ) → counts (column_variables fronts') n ≡ false → counts (column_variables fronts) n ≡ false
    no_front n out = false_from_ne_true (counts (column_variables fronts) n) (λ was.
        both_ways (counts (column_variables fronts') n) out (counts_more New id fronts fronts' fronts_grow n was))

    told_change : nat_le now k.expiry ≡ true → (n : ℕ) → n < target_count k →
        option_map (move id k) (move_of (target_has (row_at k) (target_width k)) (target_has rows (target_width k)) from k.expiry now n) ≡ at_number told_key fronts' n
    told_change alive n few =
        elim (cases_Bool (counts (column_variables fronts') n)) [
          | inl there ↦
              change_is (target_has (row_at k) (target_width k) n) (target_has rows (target_width k) n)
              (holds_target old k.query k.expiry (objects_at fronts' n)) (holds_target new k.query k.expiry (objects_at fronts' n)) from k.expiry now
              (within_from from k.expiry now (first_before k.kind k.entry now entered) (up_to now k.expiry alive)) alive
              (λ t a b. before_times n few there t a (in_window t a b))
              (λ t a b. rows_times n t ∙ after_times n few there t a (in_window t a b)) id k n (objects_at fronts' n) (added_key n few there)
              ∙ sym (ap (λ b. if b then told_key (objects_at fronts' n) else None) there)
          | inr out ↦
              ap (option_map (move id k)) (same_move (target_has (row_at k) (target_width k) n) (target_has rows (target_width k) n) (λ t. false) (λ t. false) from k.expiry now n
              (λ t a b. no_times old now k is current n few (no_front n out) t a)
              (λ t a b. rows_times n t ∙ no_times new now k' is' current' n (few' n few) out t a))
              ∙ (λ i. option_map (move id k) (if_moved (record {
                target = n;
                gained = nothing i;
                lost = nothing i;
                enters = within from k.expiry now && (false && not false);
                leaves = within from k.expiry now && (false && not false);
              }) (nothing i) (nothing i)))
              ∙ sym (ap (λ b. if b then told_key (objects_at fronts' n) else None) out)
        ]
      where
        nothing : runs_of (listed (λ t. false && not false) from k.expiry) ≡ []
        nothing = ap runs_of (listed-none (λ t. false) from k.expiry (λ t. refl))

    all_told : map (told k) (filter is_change (map became (tuples new k.query))) ≡ filter_map (at_number told_key fronts') (between 0 (target_count k'))
    all_told =
        ap (map (told k)) (filter_mapped is_change became (tuples new k.query))
        ∙ mapped_filtered (told k) (λ key. if_change (became key)) (tuples new k.query)
        ∙ listed_targets new now k' is' current' told_key

    moves_are : nat_le now k.expiry ≡ true →
        map (move id k) (lines_upto (move_of (target_has (row_at k) (target_width k)) (target_has rows (target_width k)) from k.expiry now) (target_count k))
        ≡ map (told k) (filter is_change (map became (tuples new k.query)))
    unfolding lines_between
    moves_are alive =
        mapped_filtered (move id k) (move_of (target_has (row_at k) (target_width k)) (target_has rows (target_width k)) from k.expiry now) (between 0 (target_count k))
        ∙ between_same (λ n. option_map (move id k) (move_of (target_has (row_at k) (target_width k)) (target_has rows (target_width k)) from k.expiry now n)) (at_number told_key fronts') 0 (target_count k)
        (λ n a few. told_change alive n few)
        ∙ ap (λ m. filter_map (at_number told_key fronts') (between 0 m)) (sym same_count)
        ∙ sym all_told

    -- past the expiry nothing changes
    no_moves : nat_le now k.expiry ≡ false → ((c t : ℕ) → from ≤ t → row_at k' c t ≡ row_at k c t) →
        map (told k) (filter is_change (map became (tuples new k.query))) ≡ []
    no_moves past stay = all_told ∙ between_none (at_number told_key fronts') 0 (target_count k') (λ n a few. none_told n (subst (λ (m : ℕ). n < m) same_count few))
      where
        none_told : (n : ℕ) → n < target_count k → at_number told_key fronts' n ≡ None
        none_told n few = elim (cases_Bool (counts (column_variables fronts') n)) [
          | inl there ↦
              let key : List ℕ = objects_at fronts' n in
              let same : (t : ℕ) → from ≤ t → t ≤ k.expiry → holds_target new k.query k.expiry key t ≡ holds_target old k.query k.expiry key t = λ t a b.
              sym (after_times n few there t a (in_window t a b))
              ∙ (λ i. list_any (λ c. stay c t a i) (between (n * same_width i) (n * same_width i + same_width i)))
              ∙ before_times n few there t a (in_window t a b) in
              ap (λ b. if b then told_key key else None) there
              ∙ (λ i. option_map (told k) (if_change (changed key
              (all_false (λ t. holds_target new k.query k.expiry key t && not (holds_target old k.query k.expiry key t)) from k.expiry
              (λ t a b. ap (λ x. x && not (holds_target old k.query k.expiry key t)) (same t a b) ∙ and_not (holds_target old k.query k.expiry key t)) i)
              (all_false (λ t. holds_target old k.query k.expiry key t && not (holds_target new k.query k.expiry key t)) from k.expiry
              (λ t a b. ap (λ x. holds_target old k.query k.expiry key t && not x) (same t a b) ∙ and_not (holds_target old k.query k.expiry key t)) i)
              ((past i && holds_target new k.query k.expiry key now) && not (past i && holds_target old k.query k.expiry key now))
              ((past i && holds_target old k.query k.expiry key now) && not (past i && holds_target new k.query k.expiry key now)))))
          | inr out ↦ ap (λ b. if b then told_key (objects_at fronts' n) else None) out
        ]

    pub write_is : (nat_le now k.expiry ≡ false → (c t : ℕ) → from ≤ t → row_at k' c t ≡ row_at k c t) →
        (if nat_le now k.expiry
        then map (move id k) (lines_upto (move_of (target_has (row_at k) (target_width k)) (target_has rows (target_width k)) from k.expiry now) (target_count k))
        else []) ≡ map (told k) (filter is_change (map became (tuples new k.query)))
    write_is stay = elim (cases_Bool (nat_le now k.expiry)) [
      | inl alive ↦
          ap (λ b. if b then map (move id k) (lines_upto (move_of (target_has (row_at k) (target_width k)) (target_has rows (target_width k)) from k.expiry now) (target_count k)) else []) alive
          ∙ moves_are alive
      | inr past ↦
          ap (λ b. if b then map (move id k) (lines_upto (move_of (target_has (row_at k) (target_width k)) (target_has rows (target_width k)) from k.expiry now) (target_count k)) else []) past
          ∙ sym (no_moves past (stay past))
    ]

-- ---- a write to an object

ids_below : (class id n : ℕ) (objects : List ObjectInfo) → has_id (ids_from class n objects) id ≡ true → id < n + length objects
ids_below class id n [] there = absurd (false≢true there)
ids_below class id n (x ∷ objects) there = one (x.class == class) (ids_below class id (n + 1) objects) there
  where
    one : (b : Bool) → (has_id (ids_from class (n + 1) objects) id ≡ true → id < n + 1 + length objects) →
        has_id (map (λ (e : ℕ × ObjectInfo). e.0) (if b then ((n, x) ∷ filter (is_in_class class) (enumerate_from (n + 1) objects)) else filter (is_in_class class) (enumerate_from (n + 1) objects))) id ≡ true →
        id < n + suc (length objects)
    one true behind h = elim (or_cases (n == id) (has_id (ids_from class (n + 1) objects) id) h) [
      | inl here ↦ let same : n ≡ id = same_from_equal n id here in omega (arith, same)
      | inr later ↦ let below : id < n + 1 + length objects = behind later in omega (arith, below)
    ]
    one false behind h = let below : id < n + 1 + length objects = behind h in omega (arith, below)

pub changes_are : (id now : ℕ) (old new : History) → ChangesFrom id now old new → AddsAtMost id old.catalog new.catalog →
    (regions : List Region) (k k' : KeptQuery) → IsKeptQuery k → IsKeptQuery k' →
    IsCurrentFor (world_with old regions) now k → IsRenewed (world_with new regions) id now k k' → IsCurrentFor (world_with new regions) now k' →
    (changes : List (RowChange (List Span))) → ((c t : ℕ) → row_at k' c t ≡ rows_after spans_have changes (row_at k) c t) → k.entry ≤ now →
    moves_of id now k changes ≡ told_changes k.name (changes_of_write (world_with old regions) (world_with new regions) (registered_query k) now)
changes_are id now old new write adds regions k k' is is' current renewed current' changes same entered =
    let path : k' ≡ with_parts k k'.columns k'.pages = λ i. record {
      name = renewed.head.name i;
      kind = renewed.head.kind i;
      query = renewed.head.query i;
      entry = renewed.head.entry i;
      expiry = renewed.head.expiry i;
      columns = k'.columns;
      pages = k'.pages;
    } in
    write_is (world_with old regions) (world_with new regions) k k'.columns k'.pages id (length old.catalog.objects ≤ id)
    now is (subst IsKeptQuery path is') current (subst (IsCurrentFor (world_with new regions) now) path current')
    (columns_grow id now old new write adds regions k k' is is' current renewed)
    (λ past class. false_from_ne_true (has_id (ids_of old.catalog class) id) (λ there.
    let below : id < 0 + length old.catalog.objects = ids_below class id 0 old.catalog.objects there in omega (arith, below, past)))
    (rows_after spans_have changes (row_at k)) (λ c t. sym (same c t)) entered
    (λ past c t from. renewed.rows.stay c (ap (λ b. b && (counts (column_variables k'.columns) c && gives k'.columns id c)) past) t)
