-- The ticks of the targets of a query that is current are those at which some binding satisfies it.
use Rattle.std.proofs.Common.{◌≡◌, ℕ, zero, suc, ◌+◌, ◌*◌, ◌-◌, ◌/◌, ◌%◌, ◌<◌, ◌≤◌, Bool, true, false, ◌&&◌, ◌||◌, List, [], ◌∷◌, ◌++◌, length, map, take, drop, refl, sym, ap, ◌∙◌, subst, inl, inr, arith, if◌then◌else◌}
use Rattle.std.specs.Prelude.{◌==◌, nat_lt, slice_index}
use Rattle.std.specs.List.{list_any, range_with_len}
use Rattle.std.specs.Str.{bytes_eq}
use Rattle.std.proofs.lemmas.Bool.{and_from, and_parts, both_ways, cases_Bool, cases_lt, false_from_ne_true, false≢true, or_left, or_parts, or_right}
use Rattle.std.proofs.lemmas.List.{take-append-drop}
use Rattle.exact.proofs.Lists.{bytes_eq_refl, bytes_eq_true}
use Rattle.exact.proofs.Naturals.{below_from_test, equals_itself, same_from_equal}
use Rattle.exact.proofs.Truths.{same_truth}
use Rattle.tick_set.specs.Ticks.{within}
use Rattle.tick_set.proofs.Between.{any_between_at, any_between_found}
use Rattle.history.specs.Catalog.{ids_of}
use Rattle.history.specs.World.{World}
use Rattle.formula.specs.Resolved.{are_distinct}
use Rattle.kept_rows.specs.Listing.{target_has}
use Rattle.kept_rows.specs.Numbers.{counts, size_of}
use Rattle.meaning.specs.Binding.{holds_full, holds_target, tuple_of}
use Rattle.live_queries.specs.Columns.{AreCounted, Column, HaveObjectsOf, column_variables, columns_have, object_at_number, object_or}
use Rattle.live_queries.specs.Current.{IsCurrentFor, full_at, row_at, told_from}
use Rattle.live_queries.specs.Kept.{IsKeptQuery, KeptQuery}
use Rattle.live_queries.specs.Numbered.{AreAmong}
use Rattle.live_queries.specs.Told.{target_count, target_width}
use Rattle.live_queries.proofs.ColumnLemmas.{later_variable}
use Rattle.live_queries.proofs.CurrentLemmas.{variable_of_column, variable_of_query}
use Rattle.live_queries.proofs.JoinedLemmas.{Chosen, chosen_number, counts_joined, each_object, has_id, no_object, object_joined, objects_are}
use Rattle.live_queries.proofs.NumberingLemmas.{objects_at}
use Rattle.live_queries.proofs.OrderLemmas.{columns_are}
use Rattle.live_queries.proofs.ProductLemmas.{AreChosen, any_product_at, any_product_found, chosen_at, chosen_from, chosen_length, index_made, index_past, made_length}

-- ---- the first columns are those of the targets

pub front_variables : (targets rest : List ℕ) (cs : List Column) → map (λ c. c.variable) cs ≡ targets ++ rest →
    map (λ c. c.variable) (take (length targets) cs) ≡ targets
front_variables [] rest cs are = refl
front_variables (v ∷ targets) rest [] are = absurd (no_length v (targets ++ rest) are)
  where
    no_length : (x : ℕ) (xs : List ℕ) → [] ≡ x ∷ xs → ⊥
    no_length x xs e = let l : length {A = ℕ} [] ≡ length (x ∷ xs) = ap length e in omega (arith, l)
front_variables (v ∷ targets) rest (c ∷ cs) are =
    (λ i. head_or v (are i) ∷ front_variables targets rest cs (ap tail_of are) i)
  where
    head_or : ℕ → List ℕ → ℕ
    head_or d [] = d
    head_or d (x ∷ xs) = x

    tail_of : List ℕ → List ℕ
    tail_of [] = []
    tail_of (x ∷ xs) = xs

pub counted_front : (m : ℕ) (cs : List Column) → AreCounted cs → AreCounted (take m cs)
counted_front zero cs counted = tt
counted_front (suc m) [] counted = tt
counted_front (suc m) (c ∷ cs) counted = (counted.0, counted_front m cs counted.1)

counted_back : (m : ℕ) (cs : List Column) → AreCounted cs → AreCounted (drop m cs)
counted_back zero [] counted = tt
counted_back zero (c ∷ cs) counted = counted
counted_back (suc m) [] counted = tt
counted_back (suc m) (c ∷ cs) counted = counted_back m cs counted.1

-- ---- the objects of a binding are of their classes

index_has : (ids : List ℕ) (p : ℕ) → p < length ids → has_id ids (slice_index ids p) ≡ true
index_has [] p below = absurd (omega (arith, below))
index_has (x ∷ ids) zero below = or_left (x == x) (has_id ids x) (equals_itself x)
index_has (x ∷ ids) (suc p) below = or_right (x == slice_index ids p) (has_id ids (slice_index ids p)) (index_has ids p (omega (arith, below)))

module _ (w : World) (classes : List ℕ) where
  abbrev class_ids : ℕ → List ℕ
  class_ids v = ids_of w.history.catalog (slice_index classes v)

  pub object_is_of_class : (cs : List Column) (n : ℕ) → AreCounted cs → HaveObjectsOf w.history.catalog classes cs → counts (column_variables cs) n ≡ true →
      (v : ℕ) → columns_have cs v ≡ true → has_id (class_ids v) (object_at_number cs n v) ≡ true
  object_is_of_class [] n counted have counts_n v has = absurd (false≢true has)
  object_is_of_class (c ∷ cs) n counted have counts_n v has =
      let width : ℕ = size_of (column_variables cs) in
      let parts = and_parts (nat_lt (n / width) c.numbers.count) (counts (column_variables cs) (n % width)) counts_n in
      elim (cases_Bool (v == c.variable)) [
        | inl here ↦
            ap (λ b. has_id (class_ids v) (if b then slice_index c.ids (n / width) else object_at_number cs (n % width) v)) here
            ∙ ap (λ ids. has_id ids (slice_index c.ids (n / width))) (ap class_ids (same_from_equal v c.variable here) ∙ sym have.0)
            ∙ index_has c.ids (n / width) (subst (λ (m : ℕ). n / width < m) counted.0 (below_from_test (n / width) c.numbers.count parts.0))
        | inr other ↦
            ap (λ b. has_id (class_ids v) (if b then slice_index c.ids (n / width) else object_at_number cs (n % width) v)) other
            ∙ object_is_of_class cs (n % width) counted.1 have.1 parts.1 v (later_variable c cs v other has)
      ]

  -- objects that are chosen for each variable are among those of the columns
  among_columns : (cs : List Column) (m : ℕ) → HaveObjectsOf w.history.catalog classes cs → (f : ℕ → ℕ) →
      ((v : ℕ) → columns_have (drop m cs) v ≡ true → has_id (class_ids v) (f v) ≡ true) → AreAmong (drop m cs) f
  among_columns [] zero have f each = tt
  among_columns (c ∷ cs) zero have f each = (
    ap (λ ids. has_id ids (f c.variable)) have.0 ∙ each c.variable (or_left (c.variable == c.variable) (columns_have cs c.variable) (equals_itself c.variable)),
    among_columns cs zero have.1 f (λ v has. each v (or_right (c.variable == v) (columns_have cs v) (drop_none cs v has))),
  )
    where
      drop_none : (xs : List Column) (v : ℕ) → columns_have (drop zero xs) v ≡ true → columns_have xs v ≡ true
      drop_none [] v h = h
      drop_none (x ∷ xs) v h = h
  among_columns [] (suc m) have f each = tt
  among_columns (c ∷ cs) (suc m) have f each = among_columns cs m have.1 f each

-- variables of both parts
part_of_front : (m : ℕ) (cs : List Column) (v : ℕ) → columns_have (take m cs) v ≡ false → columns_have (drop m cs) v ≡ false → columns_have cs v ≡ false
part_of_front zero [] v a b = b
part_of_front zero (c ∷ cs) v a b = b
part_of_front (suc m) [] v a b = a
part_of_front (suc m) (c ∷ cs) v a b =
    let parts = or_parts (c.variable == v) (columns_have (take m cs) v) a in
    ap (λ x. x || columns_have cs v) parts.0 ∙ part_of_front m cs v parts.1 b

back_is_part : (m : ℕ) (cs : List Column) (v : ℕ) → columns_have (drop m cs) v ≡ true → columns_have cs v ≡ true
back_is_part zero [] v has = has
back_is_part zero (c ∷ cs) v has = has
back_is_part (suc m) [] v has = has
back_is_part (suc m) (c ∷ cs) v has = or_right (c.variable == v) (columns_have cs v) (back_is_part m cs v has)

-- ---- a query that is current

module _ (w : World) (now : ℕ) (k : KeptQuery) (is : IsKeptQuery k) (current : IsCurrentFor w now k) where
  abbrev ahead : ℕ
  ahead = length k.query.targets

  abbrev fronts : List Column
  fronts = take ahead k.columns

  abbrev backs : List Column
  backs = drop ahead k.columns

  abbrev width : ℕ
  width = target_width k

  joined : fronts ++ backs ≡ k.columns
  joined = take-append-drop ahead k.columns

  pub target_variables : map (λ c. c.variable) fronts ≡ k.query.targets
  target_variables = front_variables k.query.targets _ k.columns is.order

  pub front_has : (v : ℕ) → columns_have fronts v ≡ list_any (λ (u : ℕ). u == v) k.query.targets
  front_has v = columns_are fronts v ∙ ap (λ xs. list_any (λ (u : ℕ). u == v) xs) target_variables

  module _ (n : ℕ) (few : n < target_count k) where
    counts_at : (d : ℕ) → d < width → counts (column_variables k.columns) (n * width + d) ≡ (counts (column_variables fronts) n && counts (column_variables backs) d)
    counts_at d below =
        ap (λ cs. counts (column_variables cs) (n * width + d)) (sym joined) ∙ counts_joined backs fronts n d few below

    object_at : (added d : ℕ) → d < width → (v : ℕ) →
        object_or added k.columns (n * width + d) v ≡ (if columns_have fronts v then object_or added fronts n v else object_or added backs d v)
    object_at added d below v =
        ap (λ cs. object_or added cs (n * width + d) v) (sym joined) ∙ object_joined backs added fronts n d few below v

    pub target_objects : (added d : ℕ) → d < width → (vs : List ℕ) → ((v : ℕ) → list_any (λ (u : ℕ). u == v) vs ≡ true → columns_have fronts v ≡ true) →
        map (object_or added k.columns (n * width + d)) vs ≡ map (object_or added fronts n) vs
    target_objects added d below [] all = refl
    target_objects added d below (v ∷ vs) all =
        (λ i. (object_at added d below v
        ∙ ap (λ b. if b then object_or added fronts n v else object_or added backs d v) (all v (or_left (v == v) (list_any (λ (u : ℕ). u == v) vs) (equals_itself v)))) i
        ∷ target_objects added d below vs (λ u has. all u (or_right (v == u) (list_any (λ (x : ℕ). x == u) vs) has)) i)

    -- the objects of a target, in the order of the targets
    pub key_is : (d : ℕ) → d < width → map (object_at_number k.columns (n * width + d)) k.query.targets ≡ objects_at fronts n
    key_is d below =
        target_objects 0 d below k.query.targets (λ v has. front_has v ∙ has)
        ∙ ap (map (object_at_number fronts n)) (sym target_variables)
        ∙ objects_are fronts n (ap are_distinct target_variables ∙ is.resolved.differ)

    -- no binding has a target that isn't one
    pub no_times : counts (column_variables fronts) n ≡ false → (t : ℕ) → told_from k now ≤ t → target_has (row_at k) width n t ≡ false
    no_times none t from =
        false_from_ne_true (target_has (row_at k) width n t) (λ h.
        let s = any_between_found (λ c. row_at k c t) (n * width) (n * width + width) h in
        let at : s.tick ≡ n * width + (s.tick - n * width) = omega (arith, s.from) in
        let parts = and_parts (counts (column_variables k.columns) s.tick) (full_at w k s.tick t) (sym (current.rows s.tick t from) ∙ s.passes) in
        both_ways (counts (column_variables k.columns) s.tick)
        (ap (counts (column_variables k.columns)) at ∙ counts_at (s.tick - n * width) (omega (arith, s.from, s.below)) ∙ ap (λ b. b && counts (column_variables backs) (s.tick - n * width)) none)
        parts.0)

    abbrev key : List ℕ
    key = objects_at fronts n

    module _ (there : counts (column_variables fronts) n ≡ true) (t : ℕ) (from : told_from k now ≤ t) (inside : within k.entry k.expiry t ≡ true) where
      abbrev test : List ℕ → Bool
      test b = bytes_eq (tuple_of k.query b) key && holds_full w k.query k.expiry (slice_index b) t

      forward : target_has (row_at k) width n t ≡ true → holds_target w k.query k.expiry key t ≡ true
      forward h =
          let s = any_between_found (λ c. row_at k c t) (n * width) (n * width + width) h in
          let d : ℕ = s.tick - n * width in
          let below : d < width = omega (arith, s.from, s.below) in
          let at : n * width + d ≡ s.tick = omega (arith, s.from) in
          let f : ℕ → ℕ = object_at_number k.columns s.tick in
          let b : List ℕ = map f (range_with_len 0 (length k.query.classes)) in
          let parts = and_parts (counts (column_variables k.columns) s.tick) (full_at w k s.tick t) (sym (current.rows s.tick t from) ∙ s.passes) in
          let holds : holds_full w k.query k.expiry f t ≡ true = (and_parts (within k.entry k.expiry t) (holds_full w k.query k.expiry f t) parts.1).1 in
          let made : (v : ℕ) → slice_index b v ≡ f v = λ v. elim (cases_lt v (length k.query.classes)) [
            | inl l ↦ index_made f (length k.query.classes) 0 v l ∙ ap f (let e : 0 + v ≡ v = omega arith in e)
            | inr past ↦ index_past b v (subst (λ (m : ℕ). m ≤ v) (sym (made_length f (length k.query.classes) 0)) past)
                ∙ sym (no_object k.columns s.tick v (not_there v past))
          ] in
          let chosen : AreChosen (map (ids_of w.history.catalog) k.query.classes) b =
          chosen_from (ids_of w.history.catalog) k.query.classes f 0
          (λ i l. ap (λ v. has_id (ids_of w.history.catalog (slice_index k.query.classes i)) (f v)) (let e : 0 + i ≡ i = omega arith in e)
          ∙ object_is_of_class w k.query.classes k.columns s.tick is.counted current.objects parts.0 i (variable_of_column k is i l)) in
          let tuple : tuple_of k.query b ≡ key =
          (λ i. map (λ v. made v i) k.query.targets)
          ∙ ap (λ m. map (object_at_number k.columns m) k.query.targets) (sym at) ∙ key_is d below in
          any_product_at test (map (ids_of w.history.catalog) k.query.classes) b chosen
          (and_from (bytes_eq (tuple_of k.query b) key) (holds_full w k.query k.expiry (slice_index b) t)
          (ap (λ x. bytes_eq x key) tuple ∙ bytes_eq_refl key)
          (ap (λ (g : ℕ → ℕ). holds_full w k.query k.expiry g t) (λ i v. made v i) ∙ holds))
        where
          not_there : (v : ℕ) → length k.query.classes ≤ v → columns_have k.columns v ≡ false
          not_there v past = false_from_ne_true (columns_have k.columns v) (λ has. omega (arith, past, variable_of_query k is v has))

      backward : holds_target w k.query k.expiry key t ≡ true → target_has (row_at k) width n t ≡ true
      backward h =
          let found = any_product_found test (map (ids_of w.history.catalog) k.query.classes) h in
          let b : List ℕ = found.binding in
          let f : ℕ → ℕ = slice_index b in
          let parts = and_parts (bytes_eq (tuple_of k.query b) key) (holds_full w k.query k.expiry f t) found.passes in
          let tuple : key ≡ map f (map (λ c. c.variable) fronts) =
          sym (bytes_eq_true (tuple_of k.query b) key parts.0) ∙ ap (map f) (sym target_variables) in
          let rest : Chosen backs f = chosen_number backs f (counted_back ahead k.columns is.counted)
          (among_columns w k.query.classes k.columns ahead current.objects f
          (λ v has. chosen_at (ids_of w.history.catalog) k.query.classes b found.chosen v (variable_of_query k is v (back_is_part ahead k.columns v has)))) in
          let c : ℕ = n * width + rest.number in
          let same : (v : ℕ) → object_at_number k.columns c v ≡ f v = λ v.
          object_at 0 rest.number rest.below v ∙ elim (cases_Bool (columns_have fronts v)) [
            | inl front ↦ ap (λ x. if x then object_at_number fronts n v else object_at_number backs rest.number v) front ∙ each_object fronts n f tuple v front
            | inr apart ↦ ap (λ x. if x then object_at_number fronts n v else object_at_number backs rest.number v) apart
                ∙ elim (cases_Bool (columns_have backs v)) [
                  | inl back ↦ rest.objects v back
                  | inr none ↦ no_object backs rest.number v none ∙ sym (index_past b v (subst (λ (m : ℕ). m ≤ v)
                      (sym (chosen_length (ids_of w.history.catalog) k.query.classes b found.chosen))
                      (past_classes v (part_of_front ahead k.columns v apart none))))
                ]
          ] in
          any_between_at (λ m. row_at k m t) (n * width) (n * width + width) c (omega arith) (omega (arith, rest.below))
          (current.rows c t from
          ∙ and_from (counts (column_variables k.columns) c) (full_at w k c t)
          (counts_at rest.number rest.below ∙ and_from _ _ there rest.counted)
          (and_from (within k.entry k.expiry t) (holds_full w k.query k.expiry (object_at_number k.columns c) t) inside
          (ap (λ (g : ℕ → ℕ). holds_full w k.query k.expiry g t) (λ i v. same v i) ∙ parts.1)))
        where
          past_classes : (v : ℕ) → columns_have k.columns v ≡ false → length k.query.classes ≤ v
          past_classes v none = elim (cases_lt v (length k.query.classes)) [
            | inl l ↦ absurd (both_ways (columns_have k.columns v) none (variable_of_column k is v l))
            | inr past ↦ past
          ]

      pub times_are : target_has (row_at k) width n t ≡ holds_target w k.query k.expiry key t
      times_are = same_truth (target_has (row_at k) width n t) (holds_target w k.query k.expiry key t) forward backward
