-- What is told of a query that is current is what it means.
use Rattle.std.proofs.Common.{◌≡◌, ℕ, zero, suc, ◌+◌, ◌*◌, ◌<◌, ◌≤◌, Bool, true, false, not, ◌&&◌, Option, None, Some, List, [], ◌∷◌, length, map, take, drop, refl, sym, ap, ◌∙◌, inl, inr, arith, if◌then◌else◌}
use Rattle.std.specs.Prelude.{nat_le, slice_index}
use Rattle.std.specs.List.{cons_option, filter, filter_map}
use Rattle.std.specs.Option.{option_map}
use Rattle.std.proofs.lemmas.Bool.{cases_Bool}
use Rattle.tick_set.specs.Runs.{runs_of}
use Rattle.tick_set.specs.Ticks.{between, listed}
use Rattle.tick_set.proofs.Between.{within_from}
use Rattle.tick_set.proofs.CallerLemmas.{same_listed}
use Rattle.history.specs.Catalog.{Catalog, ids_of}
use Rattle.history.specs.World.{World}
use Rattle.formula.specs.declared.kind.QueryKind.{QueryKind}
use Rattle.formula.specs.declared.kind.QueryKind.TheVariants as kinds
use Rattle.kept_rows.specs.Listing.{line_of, lines_between, passing_of, target_has, when_differ, with_runs}
use Rattle.kept_rows.specs.Numbers.{counts}
use Rattle.kept_rows.proofs.ListingLemmas.{listed-none}
use Rattle.kept_rows.proofs.NumberLemmas.{size-some}
use Rattle.meaning.specs.Answer.{Row, has_ticks, row_where}
use Rattle.meaning.specs.Binding.{holds_target, product, tuples}
use Rattle.meaning.specs.Registered.{Change, changes_of_tick, first_tick, is_change, passage_of, registered_answer, stands_at}
use Rattle.live_queries.specs.Columns.{Column, HaveObjectsOf, column_variables, object_at_number}
use Rattle.live_queries.specs.Current.{IsCurrentFor, row_at, told_from}
use Rattle.live_queries.specs.Kept.{IsKeptQuery, KeptQuery, registered_query}
use Rattle.live_queries.specs.Told.{Told, answer_of, key_of, passing_change, passings_of, row_of_line, target_count, target_width, told_changes}
use Rattle.live_queries.proofs.NumberingLemmas.{at_number, between_same, listed_product, objects_at}
use Rattle.live_queries.proofs.TargetLemmas.{counted_front, key_is, no_times, target_variables, times_are}
use Rattle.exact.proofs.Naturals.{at_most_from_test}

-- ---- lists

pub filter_mapped : {K X : Type 0} (p : X → Bool) (f : K → X) (ks : List K) → filter p (map f ks) ≡ filter_map (λ x. if p (f x) then Some (f x) else None) ks
filter_mapped p f [] = refl
filter_mapped p f (k ∷ ks) = one (p (f k)) (f k) _ _ (filter_mapped p f ks)
  where
    one : {Y : Type 0} (b : Bool) (y : Y) (rest rest' : List Y) → rest ≡ rest' → (if b then y ∷ rest else rest) ≡ cons_option (if b then Some y else None) rest'
    one true y rest rest' e = ap (λ r. y ∷ r) e
    one false y rest rest' e = e

pub mapped_filtered : {K X Y : Type 0} (f : X → Y) (line : K → Option X) (ns : List K) → map f (filter_map line ns) ≡ filter_map (λ n. option_map f (line n)) ns
mapped_filtered f line [] = refl
mapped_filtered f line (n ∷ ns) = one f (line n) _ _ (mapped_filtered f line ns)
  where
    one : {A B : Type 0} (g : A → B) (o : Option A) (rest : List A) (rest' : List B) → map g rest ≡ rest' → map g (cons_option o rest) ≡ cons_option (option_map g o) rest'
    one g None rest rest' e = e
    one g (Some x) rest rest' e = ap (λ r. g x ∷ r) e

front_ids : (c : Catalog) (classes : List ℕ) (m : ℕ) (cs : List Column) → HaveObjectsOf c classes cs →
    map (λ v. ids_of c (slice_index classes v)) (map (λ x. x.variable) (take m cs)) ≡ map (λ x. x.ids) (take m cs)
front_ids c classes zero cs have = refl
front_ids c classes (suc m) [] have = refl
front_ids c classes (suc m) (x ∷ cs) have = λ i. sym have.0 i ∷ front_ids c classes m cs have.1 i

pub first_after : (kind : QueryKind) (entry now : ℕ) → entry ≤ now → entry ≤ first_tick kind entry now
first_after kinds.Watch entry now h = h
first_after kinds.Keep entry now h = omega arith

pub first_before : (kind : QueryKind) (entry now : ℕ) → entry ≤ now → first_tick kind entry now ≤ now
first_before kinds.Watch entry now h = omega arith
first_before kinds.Keep entry now h = h

-- ---- one target

abbrev row : List ℕ → List (ℕ × ℕ) → Row
row key runs = record { key = key; runs = runs }

with_key : (k : KeptQuery) (n : ℕ) (key : List ℕ) → key_of 0 k n ≡ key → (rs runs : List (ℕ × ℕ)) → rs ≡ runs →
    option_map (row_of_line k) (with_runs n rs) ≡ (if has_ticks runs then Some (row key runs) else None)
with_key k n key e rs runs f = ap (λ x. option_map (row_of_line k) (with_runs n x)) f ∙ by_runs runs
  where
    by_runs : (x : List (ℕ × ℕ)) → option_map (row_of_line k) (with_runs n x) ≡ (if has_ticks x then Some (row key x) else None)
    by_runs [] = refl
    by_runs (r ∷ x) = ap (λ own. Some (row own (r ∷ x))) e

-- a target that stands or not at two ticks
abbrev passage : List ℕ → Bool → Bool → Change
passage key a b = record { key = key; gained = []; lost = []; enters = b && not a; leaves = a && not b }

abbrev pub told : KeptQuery → Change → Told
told k c = record { query = k.name; change = c }

passes : (k : KeptQuery) (n : ℕ) (key : List ℕ) → key_of 0 k n ≡ key → (a b : Bool) →
    option_map (passing_change k) (when_differ n a b) ≡ option_map (told k) (if is_change (passage key a b) then Some (passage key a b) else None)
passes k n key e true true = refl
passes k n key e true false = ap (λ own. Some (told k (passage own true false))) e
passes k n key e false true = ap (λ own. Some (told k (passage own false true))) e
passes k n key e false false = refl

module _ (w : World) (before : ℕ) (k : KeptQuery) (is : IsKeptQuery k) (current : IsCurrentFor w before k) where
  abbrev fronts : List Column
  fronts = take (length k.query.targets) k.columns

  abbrev holds : List ℕ → ℕ → Bool
  holds key t = holds_target w k.query k.expiry key t

  key_at : (n : ℕ) → n < target_count k → key_of 0 k n ≡ objects_at fronts n
  key_at n few =
      ap (λ m. map (object_at_number k.columns m) k.query.targets) (let e : n * target_width k ≡ n * target_width k + 0 = omega arith in e)
      ∙ key_is w before k is current n few 0 (size-some (column_variables (drop (length k.query.targets) k.columns)))

  -- the keys of the targets, and those of their numbers
  pub listed_targets : {X : Type 0} (g : List ℕ → Option X) → filter_map g (tuples w k.query) ≡ filter_map (at_number g fronts) (between 0 (target_count k))
  listed_targets g =
      ap (λ lists. filter_map g (product lists))
      (ap (map (λ v. ids_of w.history.catalog (slice_index k.query.classes v))) (sym (target_variables w before k is current))
      ∙ front_ids w.history.catalog k.query.classes (length k.query.targets) k.columns current.objects)
      ∙ listed_product g fronts (counted_front (length k.query.targets) k.columns is.counted)

  told_line : (n from : ℕ) → n < target_count k → k.entry ≤ from → told_from k before ≤ from →
      option_map (row_of_line k) (line_of (target_has (row_at k) (target_width k)) from k.expiry n)
      ≡ at_number (λ key. if has_ticks (row_where holds from k.expiry key).runs then Some (row_where holds from k.expiry key) else None) fronts n
  told_line n from few after told_later =
      elim (cases_Bool (counts (column_variables fronts) n)) [
        | inl there ↦
            with_key k n (objects_at fronts n) (key_at n few) (runs_of (listed (target_has (row_at k) (target_width k) n) from k.expiry))
            (runs_of (listed (holds (objects_at fronts n)) from k.expiry))
            (ap runs_of (same_listed (target_has (row_at k) (target_width k) n) (holds (objects_at fronts n)) from k.expiry
            (λ t a b. times_are w before k is current n few there t (omega (arith, told_later, a)) (within_from k.entry k.expiry t (omega (arith, after, a)) b))))
            ∙ sym (ap (λ b. if b then (if has_ticks (row_where holds from k.expiry (objects_at fronts n)).runs then Some (row_where holds from k.expiry (objects_at fronts n)) else None) else None) there)
        | inr none ↦
            ap (λ runs. option_map (row_of_line k) (with_runs n runs))
            (ap runs_of (same_listed (target_has (row_at k) (target_width k) n) (λ t. false) from k.expiry
            (λ t a b. no_times w before k is current n few none t (omega (arith, told_later, a)))
            ∙ listed-none (λ t. false) from k.expiry (λ t. refl)))
            ∙ sym (ap (λ b. if b then (if has_ticks (row_where holds from k.expiry (objects_at fronts n)).runs then Some (row_where holds from k.expiry (objects_at fronts n)) else None) else None) none)
      ]

  pub answer_is : k.entry ≤ told_from k before → answer_of k before ≡ registered_answer w (registered_query k) before
  unfolding lines_between
  answer_is after =
      let from : ℕ = told_from k before in
      mapped_filtered (row_of_line k) (line_of (target_has (row_at k) (target_width k)) from k.expiry) (between 0 (target_count k))
      ∙ between_same (λ n. option_map (row_of_line k) (line_of (target_has (row_at k) (target_width k)) from k.expiry n)) _ 0 (target_count k)
      (λ n a few. told_line n from few after (omega arith))
      ∙ sym (listed_targets (λ key. if has_ticks (row_where holds from k.expiry key).runs then Some (row_where holds from k.expiry key) else None))
      ∙ sym (filter_mapped (λ (row : Row). has_ticks row.runs) (row_where holds from k.expiry) (tuples w k.query))

  -- whether a target stands at a tick of the window or after it
  stands : (n : ℕ) (few : n < target_count k) → counts (column_variables fronts) n ≡ true → (t : ℕ) → k.entry ≤ t → told_from k before ≤ t →
      (nat_le t k.expiry && target_has (row_at k) (target_width k) n t) ≡ stands_at k.expiry (holds (objects_at fronts n)) t
  stands n few there t after told_later = elim (cases_Bool (nat_le t k.expiry)) [
    | inl l ↦ ap (λ b. nat_le t k.expiry && b) (times_are w before k is current n few there t told_later (within_from k.entry k.expiry t after (at_most_from_test t k.expiry l)))
    | inr past ↦
        ap (λ b. b && target_has (row_at k) (target_width k) n t) past ∙ sym (ap (λ b. b && holds (objects_at fronts n) t) past)
  ]

  told_passing : (now : ℕ) → k.entry ≤ before → before ≤ now → (n : ℕ) → n < target_count k →
      option_map (passing_change k) (passing_of (target_has (row_at k) (target_width k)) k.expiry before now n)
      ≡ at_number (λ key. option_map (told k) (if is_change (passage_of key (holds key) before now k.expiry) then Some (passage_of key (holds key) before now k.expiry) else None)) fronts n
  told_passing now after later n few =
      let early : told_from k before ≤ before = first_before k.kind k.entry before after in
      let told_later : told_from k before ≤ now = omega (arith, early, later) in
      elim (cases_Bool (counts (column_variables fronts) n)) [
        | inl there ↦
            (λ i. option_map (passing_change k) (when_differ n (stands n few there before after early i) (stands n few there now (omega (arith, after, later)) told_later i)))
            ∙ passes k n (objects_at fronts n) (key_at n few)
            (stands_at k.expiry (holds (objects_at fronts n)) before) (stands_at k.expiry (holds (objects_at fronts n)) now)
            ∙ sym (ap (λ b. if b then option_map (told k) (if is_change (passage_of (objects_at fronts n) (holds (objects_at fronts n)) before now k.expiry)
            then Some (passage_of (objects_at fronts n) (holds (objects_at fronts n)) before now k.expiry) else None) else None) there)
        | inr none ↦
            (λ i. option_map (passing_change k) (when_differ n (nat_le before k.expiry && no_times w before k is current n few none before early i)
            (nat_le now k.expiry && no_times w before k is current n few none now told_later i)))
            ∙ both_out (nat_le before k.expiry) (nat_le now k.expiry)
            ∙ sym (ap (λ b. if b then option_map (told k) (if is_change (passage_of (objects_at fronts n) (holds (objects_at fronts n)) before now k.expiry)
            then Some (passage_of (objects_at fronts n) (holds (objects_at fronts n)) before now k.expiry) else None) else None) none)
      ]
    where
      both_out : (a b : Bool) → option_map (passing_change k) (when_differ n (a && false) (b && false)) ≡ None
      both_out true true = refl
      both_out true false = refl
      both_out false true = refl
      both_out false false = refl

  pub passings_are : (now : ℕ) → k.entry ≤ before → before ≤ now → passings_of before now k ≡ told_changes k.name (changes_of_tick w (registered_query k) before now)
  unfolding lines_between
  passings_are now after later =
      mapped_filtered (passing_change k) (passing_of (target_has (row_at k) (target_width k)) k.expiry before now) (between 0 (target_count k))
      ∙ between_same (λ n. option_map (passing_change k) (passing_of (target_has (row_at k) (target_width k)) k.expiry before now n)) _ 0 (target_count k)
      (λ n a few. told_passing now after later n few)
      ∙ sym (listed_targets (λ key. option_map (told k) (if is_change (passage_of key (holds key) before now k.expiry) then Some (passage_of key (holds key) before now k.expiry) else None)))
      ∙ sym (mapped_filtered (told k) (λ key. if is_change (passage_of key (holds key) before now k.expiry) then Some (passage_of key (holds key) before now k.expiry) else None) (tuples w k.query))
      ∙ sym (ap (map (told k)) (filter_mapped is_change (λ key. passage_of key (holds key) before now k.expiry) (tuples w k.query)))
