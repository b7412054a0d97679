-- Columns before and after a write to an object: each has the same objects, or one more, which is the object.
use Rattle.std.proofs.Common.{◌≡◌, ℕ, zero, suc, ◌+◌, ◌*◌, ◌/◌, ◌%◌, ◌<◌, Bool, true, false, not, ◌&&◌, ◌⊎◌, List, [], ◌∷◌, ◌++◌, length, map, refl, sym, ap, ◌∙◌, inl, inr, arith, if◌then◌else◌}
use Rattle.std.specs.Prelude.{⊤, ◌==◌, nat_lt, slice_index}
use Rattle.std.specs.List.{list_any}
use Rattle.std.proofs.lemmas.Bool.{and_from, and_parts, both_ways, cases_Bool, false≢true, or_cases, or_left, or_parts, or_right}
use Rattle.std.proofs.lemmas.Bool.Decides.{nat_tests}
use Rattle.formula.specs.Resolved.{are_distinct}
use Rattle.kept_rows.specs.Numbers.{counts, size_of}
use Rattle.live_queries.specs.Columns.{Column, column_variables, columns_have, gives, object_at_number}
use Rattle.exact.proofs.Truths.{both_and, false_from_not}
use Rattle.exact.proofs.Naturals.{equals_itself}

-- `New` is what is known where the object wasn't there before
pub record IsGrown (New : Type 0) (id : ℕ) (c d : Column) : Type 0 where
  pub variable : d.variable ≡ c.variable
  pub capacity : d.numbers.capacity ≡ c.numbers.capacity
  pub old_count : c.numbers.count ≡ length c.ids
  pub new_count : d.numbers.count ≡ length d.ids
  pub ids : (d.ids ≡ c.ids) ⊎ ((d.ids ≡ c.ids ++ id ∷ []) × New)

abbrev pub AreGrown : Type 0 → ℕ → List Column → List Column → Type 0
AreGrown New id [] [] = ⊤
AreGrown New id [] (d ∷ ds) = ⊥
AreGrown New id (c ∷ cs) [] = ⊥
AreGrown New id (c ∷ cs) (d ∷ ds) = IsGrown New id c d × AreGrown New id cs ds

-- ---- numbers

pub turned : (u w : ℕ) → (u == w) ≡ true → (w == u) ≡ true
turned u w h = grind (arith, nat_tests, h)

-- a variable that isn't that of the first column is that of a later one
pub later_variable : (c : Column) (cs : List Column) (v : ℕ) → (v == c.variable) ≡ false → columns_have (c ∷ cs) v ≡ true → columns_have cs v ≡ true
later_variable c cs v other has = elim (or_cases (c.variable == v) (columns_have cs v) has) [
  | inl here ↦ absurd (false≢true (sym other ∙ turned c.variable v here))
  | inr later ↦ later
]

-- ---- one column

same_index : (xs : List ℕ) (id p : ℕ) → (slice_index (xs ++ id ∷ []) p == id) ≡ false → slice_index (xs ++ id ∷ []) p ≡ slice_index xs p
same_index [] id zero h = absurd (both_ways (id == id) h (equals_itself id))
same_index [] id (suc p) h = refl
same_index (x ∷ xs) id zero h = refl
same_index (x ∷ xs) id (suc p) h = same_index xs id p h

early_index : (xs : List ℕ) (id p : ℕ) → p < length xs → slice_index (xs ++ id ∷ []) p ≡ slice_index xs p
early_index [] id p h = absurd (omega (arith, h))
early_index (x ∷ xs) id zero h = refl
early_index (x ∷ xs) id (suc p) h = early_index xs id p (omega (arith, h))

pub last_index : (xs : List ℕ) (id : ℕ) → slice_index (xs ++ id ∷ []) (length xs) ≡ id
last_index [] id = refl
last_index (x ∷ xs) id = last_index xs id

pub one_more : (xs : List ℕ) (id : ℕ) → length (xs ++ id ∷ []) ≡ length xs + 1
one_more [] id = refl
one_more (x ∷ xs) id = let e : length (xs ++ id ∷ []) ≡ length xs + 1 = one_more xs id in omega (arith, e)

lt_other : (p n m k : ℕ) → n ≡ k + 1 → m ≡ k → (p ≡ k → ⊥) → nat_lt p n ≡ nat_lt p m
lt_other p n m k e f apart = grind (arith, nat_tests, e, f, apart)

lt_more : (p n m k : ℕ) → n ≡ k + 1 → m ≡ k → nat_lt p m ≡ true → nat_lt p n ≡ true
lt_more p n m k e f h = grind (arith, nat_tests, e, f, h)

module _ (New : Type 0) (id : ℕ) (c d : Column) (grown : IsGrown New id c d) (p : ℕ) where
  -- another object stands where it stood
  column_object : (slice_index d.ids p == id) ≡ false → slice_index d.ids p ≡ slice_index c.ids p
  column_object other = elim grown.ids [
    | inl same ↦ ap (λ ids. slice_index ids p) same
    | inr more ↦
        ap (λ ids. slice_index ids p) more.0 ∙ same_index c.ids id p (ap (λ ids. slice_index ids p == id) (sym more.0) ∙ other)
  ]

  column_counts : (slice_index d.ids p == id) ≡ false → nat_lt p d.numbers.count ≡ nat_lt p c.numbers.count
  column_counts other = elim grown.ids [
    | inl same ↦ ap (nat_lt p) (grown.new_count ∙ ap length same ∙ sym grown.old_count)
    | inr more ↦
        lt_other p d.numbers.count c.numbers.count (length c.ids)
        (grown.new_count ∙ ap length more.0 ∙ one_more c.ids id) grown.old_count
        (λ last. both_ways (slice_index d.ids p == id) other
        (ap (λ o. o == id) (ap (λ ids. slice_index ids p) more.0 ∙ ap (slice_index (c.ids ++ id ∷ [])) last ∙ last_index c.ids id) ∙ equals_itself id))
  ]

  column_more : nat_lt p c.numbers.count ≡ true → nat_lt p d.numbers.count ≡ true
  column_more h = elim grown.ids [
    | inl same ↦ ap (nat_lt p) (grown.new_count ∙ ap length same ∙ sym grown.old_count) ∙ h
    | inr more ↦
        lt_more p d.numbers.count c.numbers.count (length c.ids) (grown.new_count ∙ ap length more.0 ∙ one_more c.ids id) grown.old_count h
  ]

  -- a place has an object that was there, or the one that wasn't
  pub column_cases : nat_lt p d.numbers.count ≡ true →
      ((nat_lt p c.numbers.count ≡ true) × (slice_index d.ids p ≡ slice_index c.ids p))
      ⊎ ((nat_lt p c.numbers.count ≡ false) × (slice_index d.ids p ≡ id) × New)
  column_cases h = elim grown.ids [
    | inl same ↦ inl (ap (nat_lt p) (sym (grown.new_count ∙ ap length same ∙ sym grown.old_count)) ∙ h, ap (λ ids. slice_index ids p) same)
    | inr more ↦
        let count : d.numbers.count ≡ length c.ids + 1 = grown.new_count ∙ ap length more.0 ∙ one_more c.ids id in
        elim (cases_Bool (nat_lt p c.numbers.count)) [
          | inl old ↦
              let below : p < length c.ids = grind (arith, nat_tests, old, grown.old_count) in
              inl (old, ap (λ ids. slice_index ids p) more.0 ∙ early_index c.ids id p below)
          | inr anew ↦
              let last : p ≡ length c.ids = grind (arith, nat_tests, h, anew, count, grown.old_count) in
              inr (anew, ap (λ ids. slice_index ids p) more.0 ∙ ap (slice_index (c.ids ++ id ∷ [])) last ∙ last_index c.ids id, more.1)
        ]
  ]

-- ---- all columns

if_same : (b b' : Bool) (x x' y y' : ℕ) → b ≡ b' → x ≡ x' → y ≡ y' → (if b then x else y) ≡ (if b' then x' else y')
if_same b b' x x' y y' e f g = λ i. if e i then f i else g i

pub same_size : (New : Type 0) (id : ℕ) (cs ds : List Column) → AreGrown New id cs ds → size_of (column_variables ds) ≡ size_of (column_variables cs)
same_size New id [] [] g = refl
same_size New id [] (d ∷ ds) g = absurd g
same_size New id (c ∷ cs) [] g = absurd g
same_size New id (c ∷ cs) (d ∷ ds) g =
    let later : size_of (column_variables ds) ≡ size_of (column_variables cs) = same_size New id cs ds g.1 in
    λ i. g.0.capacity i * later i

pub same_objects : (New : Type 0) (id : ℕ) (cs ds : List Column) → AreGrown New id cs ds → (n v : ℕ) → gives ds id n ≡ false →
    object_at_number ds n v ≡ object_at_number cs n v
same_objects New id [] [] g n v other = refl
same_objects New id [] (d ∷ ds) g n v other = absurd g
same_objects New id (c ∷ cs) [] g n v other = absurd g
same_objects New id (c ∷ cs) (d ∷ ds) g n v other =
    let width : ℕ = size_of (column_variables ds) in
    let e : size_of (column_variables ds) ≡ size_of (column_variables cs) = same_size New id cs ds g.1 in
    let parts = or_parts (slice_index d.ids (n / width) == id) (gives ds id (n % width)) other in
    if_same (v == d.variable) (v == c.variable) _ _ _ _ (ap (λ u. v == u) g.0.variable)
    (column_object New id c d g.0 (n / width) parts.0 ∙ ap (λ w. slice_index c.ids (n / w)) e)
    (same_objects New id cs ds g.1 (n % width) v parts.1 ∙ ap (λ w. object_at_number cs (n % w) v) e)

pub same_counts : (New : Type 0) (id : ℕ) (cs ds : List Column) → AreGrown New id cs ds → (n : ℕ) → gives ds id n ≡ false →
    counts (column_variables ds) n ≡ counts (column_variables cs) n
same_counts New id [] [] g n other = refl
same_counts New id [] (d ∷ ds) g n other = absurd g
same_counts New id (c ∷ cs) [] g n other = absurd g
same_counts New id (c ∷ cs) (d ∷ ds) g n other =
    let width : ℕ = size_of (column_variables ds) in
    let e : size_of (column_variables ds) ≡ size_of (column_variables cs) = same_size New id cs ds g.1 in
    let parts = or_parts (slice_index d.ids (n / width) == id) (gives ds id (n % width)) other in
    both_and _ _ _ _
    (column_counts New id c d g.0 (n / width) parts.0 ∙ ap (λ w. nat_lt (n / w) c.numbers.count) e)
    (same_counts New id cs ds g.1 (n % width) parts.1 ∙ ap (λ w. counts (column_variables cs) (n % w)) e)

pub counts_more : (New : Type 0) (id : ℕ) (cs ds : List Column) → AreGrown New id cs ds → (n : ℕ) → counts (column_variables cs) n ≡ true →
    counts (column_variables ds) n ≡ true
counts_more New id [] [] g n h = h
counts_more New id [] (d ∷ ds) g n h = absurd g
counts_more New id (c ∷ cs) [] g n h = absurd g
counts_more New id (c ∷ cs) (d ∷ ds) g n h =
    let width : ℕ = size_of (column_variables ds) in
    let e : size_of (column_variables ds) ≡ size_of (column_variables cs) = same_size New id cs ds g.1 in
    let parts = and_parts (nat_lt (n / size_of (column_variables cs)) c.numbers.count) (counts (column_variables cs) (n % size_of (column_variables cs))) h in
    and_from (nat_lt (n / width) d.numbers.count) (counts (column_variables ds) (n % width))
    (column_more New id c d g.0 (n / width) (ap (λ w. nat_lt (n / w) c.numbers.count) e ∙ parts.0))
    (counts_more New id cs ds g.1 (n % width) (ap (λ w. counts (column_variables cs) (n % w)) e ∙ parts.1))

-- a binding with the object that wasn't there
pub record HasNew (New : Type 0) (id : ℕ) (cs ds : List Column) (n : ℕ) : Type 0 where
  pub none : counts (column_variables cs) n ≡ false
  pub variable : ℕ
  pub there : columns_have ds variable ≡ true
  pub object : object_at_number ds n variable ≡ id
  pub new : New

abbrev pub IsAsBefore : List Column → List Column → ℕ → Type 0
IsAsBefore cs ds n = (counts (column_variables cs) n ≡ true) × ((v : ℕ) → object_at_number ds n v ≡ object_at_number cs n v)

pub not_head : (u v : ℕ) (ds : List Column) → list_any (λ (y : ℕ). y == u) (map (λ (d : Column). d.variable) ds) ≡ false → columns_have ds v ≡ true → (v == u) ≡ false
not_head u v [] none has = absurd (false≢true has)
not_head u v (d ∷ ds) none has =
    let parts = or_parts (d.variable == u) (list_any (λ (y : ℕ). y == u) (map (λ (x : Column). x.variable) ds)) none in
    elim (or_cases (d.variable == v) (columns_have ds v) has) [
      | inl here ↦ grind (arith, nat_tests, here, parts.0)
      | inr later ↦ not_head u v ds parts.1 later
    ]

pub new_or_before : (New : Type 0) (id : ℕ) (cs ds : List Column) → AreGrown New id cs ds → are_distinct (map (λ d. d.variable) ds) ≡ true →
    (n : ℕ) → counts (column_variables ds) n ≡ true → HasNew New id cs ds n ⊎ IsAsBefore cs ds n
new_or_before New id [] [] g distinct n h = inr (h, λ v. refl)
new_or_before New id [] (d ∷ ds) g distinct n h = absurd g
new_or_before New id (c ∷ cs) [] g distinct n h = absurd g
new_or_before New id (c ∷ cs) (d ∷ ds) g distinct n h =
    let width : ℕ = size_of (column_variables ds) in
    let e : size_of (column_variables ds) ≡ size_of (column_variables cs) = same_size New id cs ds g.1 in
    let parts = and_parts (nat_lt (n / width) d.numbers.count) (counts (column_variables ds) (n % width)) h in
    let apart = and_parts (not (list_any (λ (y : ℕ). y == d.variable) (map (λ (x : Column). x.variable) ds))) (are_distinct (map (λ (x : Column). x.variable) ds)) distinct in
    elim (column_cases New id c d g.0 (n / width) parts.0) [
      | inr anew ↦ inl (record {
        none = ap (λ w. nat_lt (n / w) c.numbers.count && counts (column_variables cs) (n % w)) (sym e)
            ∙ ap (λ b. b && counts (column_variables cs) (n % width)) anew.0;
        variable = d.variable;
        there = or_left (d.variable == d.variable) (columns_have ds d.variable) (equals_itself d.variable);
        object = ap (λ b. if b then slice_index d.ids (n / width) else object_at_number ds (n % width) d.variable) (equals_itself d.variable) ∙ anew.1;
        new = anew.2;
      })
      | inl old ↦ elim (new_or_before New id cs ds g.1 apart.1 (n % width) parts.1) [
        | inl later ↦ inl (record {
          none = ap (λ w. nat_lt (n / w) c.numbers.count && counts (column_variables cs) (n % w)) (sym e) ∙ and_none _ _ later.none;
          variable = later.variable;
          there = or_right (d.variable == later.variable) (columns_have ds later.variable) later.there;
          object = ap (λ b. if b then slice_index d.ids (n / width) else object_at_number ds (n % width) later.variable)
              (not_head d.variable later.variable ds (false_from_not _ apart.0) later.there) ∙ later.object;
          new = later.new;
        })
        | inr before ↦ inr (
          ap (λ w. nat_lt (n / w) c.numbers.count && counts (column_variables cs) (n % w)) (sym e) ∙ and_from _ _ old.0 before.0,
          λ v. if_same (v == d.variable) (v == c.variable) _ _ _ _ (ap (λ u. v == u) g.0.variable)
              (old.1 ∙ ap (λ w. slice_index c.ids (n / w)) e)
              (before.1 v ∙ ap (λ w. object_at_number cs (n % w) v) e),
        )
      ]
    ]
  where
    and_none : (a b : Bool) → b ≡ false → (a && b) ≡ false
    and_none true b f = f
    and_none false b f = refl

-- an object that isn't given is the object of no variable
pub not_given : (ds : List Column) (id n v : ℕ) → columns_have ds v ≡ true → gives ds id n ≡ false → (object_at_number ds n v == id) ≡ false
not_given [] id n v there other = absurd (false≢true there)
not_given (d ∷ ds) id n v there other =
    let width : ℕ = size_of (column_variables ds) in
    let parts = or_parts (slice_index d.ids (n / width) == id) (gives ds id (n % width)) other in
    elim (cases_Bool (v == d.variable)) [
      | inl here ↦ ap (λ b. (if b then slice_index d.ids (n / width) else object_at_number ds (n % width) v) == id) here ∙ parts.0
      | inr apart ↦
          ap (λ b. (if b then slice_index d.ids (n / width) else object_at_number ds (n % width) v) == id) apart
          ∙ not_given ds id (n % width) v (later_variable d ds v apart there) parts.1
    ]
