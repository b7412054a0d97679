-- The number of a binding by its objects, and the rows of a relation by these numbers.
use Rattle.std.proofs.Common.{◌≡◌, ℕ, zero, suc, ◌+◌, ◌-◌, ◌*◌, ◌/◌, ◌%◌, ◌<◌, ◌≤◌, Bool, true, false, not, ◌&&◌, ◌||◌, List, [], ◌∷◌, length, map, refl, sym, ap, ◌∙◌, subst, inl, inr, arith, if◌then◌else◌}
use Rattle.std.specs.Prelude.{All, ◌==◌, nat_lt, slice_index, slice_index_or}
use Rattle.std.specs.List.{filter, flat_map, list_any, range_with_len}
use Rattle.std.specs.Str.{bytes_eq}
use Rattle.std.proofs.lemmas.Bool.{and_from, and_parts, both_ways, cases_Bool, false≢true, or_left, or_right}
use Rattle.std.proofs.lemmas.Bool.Decides.{nat_tests}
use Rattle.std.proofs.lemmas.List.Elements.{All-append, All-cons, All-filter, All-from_get_or, All-head, All-map, All-nil, All-tail, All-weaker}
use Rattle.std.proofs.lemmas.Nat.{div-add-mod', mul-le}
use Rattle.exact.proofs.Lists.{bytes_eq_refl, bytes_eq_true}
use Rattle.exact.proofs.Truths.{false_from_not, or_false, same_truth}
use Rattle.exact.proofs.Naturals.{equals_itself, same_from_equal}
use Rattle.tick_set.specs.Runs.{spans_have}
use Rattle.tick_set.specs.Ticks.{between}
use Rattle.tick_set.specs.declared.spans.Span.{Span}
use Rattle.formula.specs.Resolved.{are_distinct}
use Rattle.kept_rows.specs.declared.binding.TheConstants.{BINDING_LIMIT}
use Rattle.kept_rows.specs.Numbers.{counts, size_of}
use Rattle.relation.specs.declared.row.Row.{Row}
use Rattle.relation.specs.Key.{has_id, ids_of_variable, key_in}
use Rattle.relation.specs.Order.{has_row, keys_over}
use Rattle.relation.specs.Rows.{Table, has_at, table_has}
use Rattle.live_queries.specs.Columns.{AreCounted, Column, column_variables, columns_have, object_at_number}
use Rattle.live_queries.specs.Numbered.{AreAmong, DoAscend, HaveDomains, IsNumberOf, IsOverColumns}
use Rattle.live_queries.proofs.ColumnLemmas.{not_head}
use Rattle.live_queries.proofs.JoinedLemmas.{numbered_more, placed}
use Rattle.live_queries.proofs.PlaceLemmas.{once}

-- ---- the number of a binding

pub numbered_none : (cs : List Column) (f : ℕ → ℕ) → length cs ≡ 0 → IsNumberOf cs f 0
numbered_none [] f none = record { below = omega arith; counted = refl; objects = λ v table_has. absurd (false≢true table_has) }
numbered_none (c ∷ cs) f none = absurd (omega (arith, none))

pub numbered_first : (cs : List Column) (c : Column) (later : List Column) (f : ℕ → ℕ) (place width number : ℕ) → cs ≡ c ∷ later →
    width ≡ size_of (column_variables later) → place < c.numbers.count → slice_index c.ids place ≡ f c.variable → IsNumberOf later f number →
    IsNumberOf cs f (place * width + number)
numbered_first cs c later f place width number e w few object is =
    subst (λ (xs : List Column). IsNumberOf xs f (place * width + number)) (sym e)
    (subst (λ (n : ℕ). IsNumberOf (c ∷ later) f (place * n + number)) (sym w) (numbered_more c later f place number few object is))

-- the later columns have no more numbers than all
pub later_few : (cs : List Column) (c : Column) (later : List Column) → cs ≡ c ∷ later → size_of (column_variables cs) ≤ BINDING_LIMIT →
    size_of (column_variables later) ≤ BINDING_LIMIT
later_few cs c later e few =
    let w : ℕ = size_of (column_variables later) in
    let all : c.numbers.capacity * w ≤ BINDING_LIMIT = subst (λ (xs : List Column). size_of (column_variables xs) ≤ BINDING_LIMIT) e few in
    let more : 1 * w ≤ c.numbers.capacity * w = mul-le 1 w c.numbers.capacity w c.numbers.some (omega arith) in
    omega (arith, more, all)

-- a place that the object alone has
pub place_there : (ids : List ℕ) (id place : ℕ) → has_id ids id ≡ true → ((p : ℕ) → p < length ids → (p == place) ≡ (slice_index ids p == id)) →
    (place < length ids) × (slice_index ids place ≡ id)
place_there ids id place table_has is =
    let p = placed ids id table_has in
    let same : p.place ≡ place =
    same_from_equal p.place place (is p.place p.below ∙ ap (λ o. o == id) p.object ∙ equals_itself id) in
    (subst (λ (n : ℕ). n < length ids) same p.below, sym (ap (slice_index ids) same) ∙ p.object)

-- ---- one number for the same objects

below_count : (p n m : ℕ) → nat_lt p n ≡ true → n ≡ m → p < m
below_count p n m h e = grind (arith, nat_tests, h, e)

pub one_number : (cs : List Column) → DoAscend cs → AreCounted cs → are_distinct (map (λ c. c.variable) cs) ≡ true → (n m : ℕ) →
    counts (column_variables cs) n ≡ true → counts (column_variables cs) m ≡ true →
    ((v : ℕ) → columns_have cs v ≡ true → object_at_number cs n v ≡ object_at_number cs m v) → n ≡ m
one_number [] ascend counted distinct n m here there same = same_from_equal n 0 here ∙ sym (same_from_equal m 0 there)
one_number (c ∷ cs) ascend counted distinct n m here there same =
    let w : ℕ = size_of (column_variables cs) in
    let first = and_parts (nat_lt (n / w) c.numbers.count) (counts (column_variables cs) (n % w)) here in
    let second = and_parts (nat_lt (m / w) c.numbers.count) (counts (column_variables cs) (m % w)) there in
    let apart = and_parts (not (list_any (λ (y : ℕ). y == c.variable) (map (λ (x : Column). x.variable) cs))) (are_distinct (map (λ (x : Column). x.variable) cs)) distinct in
    let object : slice_index c.ids (n / w) ≡ slice_index c.ids (m / w) =
    sym (ap (λ b. if b then slice_index c.ids (n / w) else object_at_number cs (n % w) c.variable) (equals_itself c.variable))
    ∙ same c.variable (or_left (c.variable == c.variable) (columns_have cs c.variable) (equals_itself c.variable))
    ∙ ap (λ b. if b then slice_index c.ids (m / w) else object_at_number cs (m % w) c.variable) (equals_itself c.variable) in
    let place : n / w ≡ m / w =
    once c.ids ascend.0 (n / w) (m / w) (below_count (n / w) c.numbers.count (length c.ids) first.0 counted.0)
    (below_count (m / w) c.numbers.count (length c.ids) second.0 counted.0) object in
    let rest : n % w ≡ m % w =
    one_number cs ascend.1 counted.1 apart.1 (n % w) (m % w) first.1 second.1
    (λ v table_has.
    let other : (v == c.variable) ≡ false = not_head c.variable v cs (false_from_not _ apart.0) table_has in
    sym (ap (λ b. if b then slice_index c.ids (n / w) else object_at_number cs (n % w) v) other)
    ∙ same v (or_right (c.variable == v) (columns_have cs v) table_has)
    ∙ ap (λ b. if b then slice_index c.ids (m / w) else object_at_number cs (m % w) v) other) in
    sym (div-add-mod' n w) ∙ (λ i. place i * w + rest i) ∙ div-add-mod' m w

-- ---- keys over the first so many variables

pub record IsKey (domains : List (List ℕ)) (a k : ℕ) (key : List ℕ) : Type 0 where
  pub long : length key ≡ k
  pub inside : (i : ℕ) → i < k → has_id (ids_of_variable domains (a + i)) (slice_index key i) ≡ true

keyed : (domains : List (List ℕ)) (k a : ℕ) (key : List ℕ) → key_in domains (range_with_len a k) key ≡ true → IsKey domains a k key
keyed domains zero a [] is = record { long = refl; inside = λ i h. absurd (omega (arith, h)) }
keyed domains zero a (x ∷ key) is = absurd (false≢true is)
keyed domains (suc k) a [] is = absurd (false≢true is)
keyed domains (suc k) a (x ∷ key) is =
    let parts = and_parts (has_id (ids_of_variable domains a) x) (key_in domains (range_with_len (a + 1) k) key) is in
    let later = keyed domains k (a + 1) key parts.1 in
    record { long = ap suc later.long; inside = each parts.0 later.inside }
  where
    each : has_id (ids_of_variable domains a) x ≡ true → ((i : ℕ) → i < k → has_id (ids_of_variable domains (a + 1 + i)) (slice_index key i) ≡ true) →
        (i : ℕ) → i < suc k → has_id (ids_of_variable domains (a + i)) (slice_index (x ∷ key) i) ≡ true
    each first others zero h = ap (λ v. has_id (ids_of_variable domains v) x) (let e : a + zero ≡ a = omega arith in e) ∙ first
    each first others (suc i) h =
        ap (λ v. has_id (ids_of_variable domains v) (slice_index key i)) (let e : a + suc i ≡ a + 1 + i = omega arith in e) ∙ others i (omega (arith, h))

listed : (f : ℕ → ℕ) (k a : ℕ) (key : List ℕ) → length key ≡ k → ((i : ℕ) → i < k → f (a + i) ≡ slice_index key i) → map f (range_with_len a k) ≡ key
listed f zero a [] long same = refl
listed f zero a (x ∷ key) long same = absurd (omega (arith, long))
listed f (suc k) a [] long same = absurd (omega (arith, long))
listed f (suc k) a (x ∷ key) long same =
    let first : f a ≡ x = ap f (let e : a ≡ a + 0 = omega arith in e) ∙ same 0 (omega arith) in
    let later : map f (range_with_len (a + 1) k) ≡ key =
    listed f k (a + 1) key (omega (arith, long))
    (λ i h. ap f (let e : a + 1 + i ≡ a + suc i = omega arith in e) ∙ same (suc i) (omega (arith, h))) in
    λ i. first i ∷ later i

at_range : (f : ℕ → ℕ) (k a i : ℕ) → i < k → slice_index (map f (range_with_len a k)) i ≡ f (a + i)
at_range f zero a i h = absurd (omega (arith, h))
at_range f (suc k) a zero h = ap f (let e : a ≡ a + zero = omega arith in e)
at_range f (suc k) a (suc i) h =
    at_range f k (a + 1) i (omega (arith, h)) ∙ ap f (let e : a + 1 + i ≡ a + suc i = omega arith in e)

from_none : (count : ℕ) → between 0 count ≡ range_with_len 0 count
unfolding between
from_none count = ap (range_with_len 0) (let e : count - 0 ≡ count = omega arith in e)

-- ---- all rows

keys_blocked : (domains : List (List ℕ)) (v : ℕ) (vars : List ℕ) (ids : List ℕ) → ((id : ℕ) → has_id ids id ≡ true → has_id (ids_of_variable domains v) id ≡ true) →
    All (λ key. key_in domains vars key ≡ true) (keys_over domains vars) →
    All (λ key. key_in domains (v ∷ vars) key ≡ true) (flat_map (λ id. map (λ later. id ∷ later) (keys_over domains vars)) ids)
keys_blocked domains v vars [] some later = All-nil (λ key. key_in domains (v ∷ vars) key ≡ true)
keys_blocked domains v vars (id ∷ ids) some later =
    let P = (λ (key : List ℕ). key_in domains (v ∷ vars) key ≡ true) in
    All-append P (map (λ key. id ∷ key) (keys_over domains vars)) (flat_map (λ x. map (λ key. x ∷ key) (keys_over domains vars)) ids)
    (All-map P (λ key. id ∷ key) (keys_over domains vars)
    (All-weaker (λ key. key_in domains vars key ≡ true) (λ key. P (id ∷ key))
    (λ key is. and_from (has_id (ids_of_variable domains v) id) (key_in domains vars key) (some id (or_left (id == id) (has_id ids id) (equals_itself id))) is)
    (keys_over domains vars) later))
    (keys_blocked domains v vars ids (λ x table_has. some x (or_right (id == x) (has_id ids x) table_has)) later)

keys_are_in : (domains : List (List ℕ)) (vars : List ℕ) → All (λ key. key_in domains vars key ≡ true) (keys_over domains vars)
keys_are_in domains [] = All-cons (λ key. key_in domains [] key ≡ true) [] [] refl (All-nil (λ key. key_in domains [] key ≡ true))
keys_are_in domains (v ∷ vars) = keys_blocked domains v vars (ids_of_variable domains v) (λ id table_has. table_has) (keys_are_in domains vars)

unmapped : {X Y : Type 0} (P : Y → Type 0) (f : X → Y) (xs : List X) → All P (map f xs) → All (λ x. P (f x)) xs
unmapped P f [] all = All-nil (λ x. P (f x))
unmapped P f (x ∷ xs) all = All-cons (λ y. P (f y)) x xs (All-head P (f x) (map f xs) all) (unmapped P f xs (All-tail P (f x) (map f xs) all))

-- what is so of each row: its key has objects of the domains, and its ticks are those of its key
pub record IsRowOf (r : Table (List Span)) (row : Row (List Span)) : Type 0 where
  pub key : key_in r.domains r.vars row.key ≡ true
  pub ticks : (t : ℕ) → has_at spans_have r.rows row.key t ≡ spans_have row.set t

pub rows_of_table : (r : Table (List Span)) → map (λ row. row.key) r.rows ≡ filter (has_row r.rows) (keys_over r.domains r.vars) →
    ((i : ℕ) (d : Row (List Span)) → i < length r.rows → (t : ℕ) →
    has_at spans_have r.rows (slice_index_or r.rows i d).key t ≡ spans_have (slice_index_or r.rows i d).set t) → All (IsRowOf r) r.rows
rows_of_table r keys ticks =
    both r.rows
    (unmapped (λ key. key_in r.domains r.vars key ≡ true) (λ row. row.key) r.rows
    (subst (All (λ key. key_in r.domains r.vars key ≡ true)) (sym keys)
    (All-filter (has_row r.rows) (λ key. key_in r.domains r.vars key ≡ true) (keys_over r.domains r.vars) (keys_are_in r.domains r.vars))))
    (All-from_get_or (λ row. (t : ℕ) → has_at spans_have r.rows row.key t ≡ spans_have row.set t) r.rows (record { key = []; set = [] })
    (λ i h. ticks i (record { key = []; set = [] }) h))
  where
    both : (xs : List (Row (List Span))) → All (λ row. key_in r.domains r.vars row.key ≡ true) xs →
        All (λ row. (t : ℕ) → has_at spans_have r.rows row.key t ≡ spans_have row.set t) xs → All (IsRowOf r) xs
    both [] a b = All-nil (IsRowOf r)
    both (x ∷ xs) a b =
        All-cons (IsRowOf r) x xs
        (record {
          key = All-head (λ row. key_in r.domains r.vars row.key ≡ true) x xs a;
          ticks = All-head (λ row. (t : ℕ) → has_at spans_have r.rows row.key t ≡ spans_have row.set t) x xs b;
        })
        (both xs (All-tail (λ row. key_in r.domains r.vars row.key ≡ true) x xs a)
        (All-tail (λ row. (t : ℕ) → has_at spans_have r.rows row.key t ≡ spans_have row.set t) x xs b))

-- ---- a row at its number

-- the row of a key is written, and the others stay
stepped : (e s later old all new : Bool) → new ≡ (if e then s else old) → (e ≡ true → all ≡ s) → (((e && s) || later) || old) ≡ all → (later || new) ≡ all
stepped true true true old all new is whole before = sym (whole refl)
stepped true true false old all new is whole before = is ∙ sym (whole refl)
stepped true false true old all new is whole before = before
stepped true false false old all new is whole before = is ∙ sym (whole refl)
stepped false s true old all new is whole before = before
stepped false s false old all new is whole before = is ∙ before

module _ (cs : List Column) (r : Table (List Span)) (over : IsOverColumns cs r) where
  vars_are : r.vars ≡ range_with_len 0 over.count
  vars_are = over.vars ∙ from_none over.count

  below_all : (v : ℕ) → columns_have cs v ≡ true → v < over.count
  below_all v table_has = let e : nat_lt v over.count ≡ true = sym (over.each v) ∙ table_has in grind (arith, nat_tests, e)

  key_is : (key : List ℕ) → key_in r.domains r.vars key ≡ true → IsKey r.domains 0 over.count key
  key_is key is = keyed r.domains over.count 0 key (subst (λ (vs : List ℕ). key_in r.domains vs key ≡ true) vars_are is)

  among : (key : List ℕ) → IsKey r.domains 0 over.count key → (ds : List Column) → HaveDomains r.domains ds →
      ((v : ℕ) → columns_have ds v ≡ true → columns_have cs v ≡ true) → AreAmong ds (slice_index key)
  among key is [] have some = tt
  among key is (d ∷ ds) have some = (
    ap (λ ids. has_id ids (slice_index key d.variable)) (sym have.0)
        ∙ ap (λ v. has_id (ids_of_variable r.domains v) (slice_index key d.variable)) (let e : d.variable ≡ 0 + d.variable = omega arith in e)
        ∙ is.inside d.variable (below_all d.variable (some d.variable (or_left (d.variable == d.variable) (columns_have ds d.variable) (equals_itself d.variable)))),
    among key is ds have.1 (λ v table_has. some v (or_right (d.variable == v) (columns_have ds v) table_has)),
  )

  pub objects_among : (key : List ℕ) → key_in r.domains r.vars key ≡ true → AreAmong cs (slice_index key)
  objects_among key is = among key (key_is key is) cs over.domains (λ v table_has. table_has)

  abbrev key_at : ℕ → List ℕ
  key_at n = map (object_at_number cs n) r.vars

  key_at_is : (n : ℕ) → key_at n ≡ map (object_at_number cs n) (range_with_len 0 over.count)
  key_at_is n = ap (map (object_at_number cs n)) vars_are

  module _ (key : List ℕ) (inside : key_in r.domains r.vars key ≡ true) (n : ℕ) (number : IsNumberOf cs (slice_index key) n) where
    is_key : IsKey r.domains 0 over.count key
    is_key = key_is key inside

    own_key : key_at n ≡ key
    own_key =
        key_at_is n
        ∙ listed (object_at_number cs n) over.count 0 key is_key.long
        (λ i h.
        ap (object_at_number cs n) (let e : 0 + i ≡ i = omega arith in e)
        ∙ number.objects i (over.each i ∙ less_is i over.count h))
      where
        less_is : (u w : ℕ) → u < w → nat_lt u w ≡ true
        less_is u w h = grind (arith, nat_tests, h)

    own_number : (c : ℕ) → counts (column_variables cs) c ≡ true → bytes_eq key (key_at c) ≡ true → c ≡ n
    own_number c counted same =
        one_number cs over.ascend over.counted over.distinct c n counted number.counted
        (λ v table_has.
        ap (object_at_number cs c) (let e : v ≡ 0 + v = omega arith in e)
        ∙ sym (at_range (object_at_number cs c) over.count 0 v (below_all v table_has))
        ∙ ap (λ (k : List ℕ). slice_index k v) (sym (bytes_eq_true key (key_at c) same ∙ key_at_is c))
        ∙ sym (number.objects v table_has))

    tested : (c : ℕ) → counts (column_variables cs) c ≡ true → bytes_eq key (key_at c) ≡ (c == n)
    tested c counted =
        same_truth (bytes_eq key (key_at c)) (c == n)
        (λ e. is_equal c n (own_number c counted e))
        (λ e. ap (λ m. bytes_eq key (key_at m)) (same_from_equal c n e) ∙ ap (bytes_eq key) own_key ∙ bytes_eq_refl key)
      where
        is_equal : (u w : ℕ) → u ≡ w → (u == w) ≡ true
        is_equal u w e = grind (arith, nat_tests, e)

  -- a row is moved to its number
  module _ (row : Row (List Span)) (is : IsRowOf r row) (n : ℕ) (number : IsNumberOf cs (slice_index row.key) n) (rest later : List (Row (List Span)))
      (next : rest ≡ row ∷ later) (old new : ℕ → ℕ → Bool)
      (written : (c t : ℕ) → new c t ≡ (if c == n then spans_have row.set t else old c t)) where
    pub row_moved : ((c t : ℕ) → counts (column_variables cs) c ≡ true → (has_at spans_have rest (key_at c) t || old c t) ≡ has_at spans_have r.rows (key_at c) t) →
        (c t : ℕ) → counts (column_variables cs) c ≡ true → (has_at spans_have later (key_at c) t || new c t) ≡ has_at spans_have r.rows (key_at c) t
    row_moved before c t counted =
        let same : bytes_eq row.key (key_at c) ≡ (c == n) = tested row.key is.key n number c counted in
        stepped (bytes_eq row.key (key_at c)) (spans_have row.set t) (has_at spans_have later (key_at c) t) (old c t) (has_at spans_have r.rows (key_at c) t) (new c t)
        (written c t ∙ ap (λ b. if b then spans_have row.set t else old c t) (sym same))
        (λ e. ap (λ k. has_at spans_have r.rows k t) (sym (bytes_eq_true row.key (key_at c) e)) ∙ is.ticks t)
        (ap (λ (xs : List (Row (List Span))). has_at spans_have xs (key_at c) t || old c t) (sym next) ∙ before c t counted)

    pub none_moved : ((c t : ℕ) → counts (column_variables cs) c ≡ false → old c t ≡ false) → (c t : ℕ) → counts (column_variables cs) c ≡ false → new c t ≡ false
    none_moved before c t none =
        written c t
        ∙ elim (cases_Bool (c == n)) [
          | inl e ↦ absurd (both_ways (counts (column_variables cs) c) none (ap (counts (column_variables cs)) (same_from_equal c n e) ∙ number.counted))
          | inr e ↦ ap (λ b. if b then spans_have row.set t else old c t) e ∙ before c t none
        ]

  pub none_moved_yet : (rows : ℕ → ℕ → Bool) → ((c t : ℕ) → rows c t ≡ false) → (c t : ℕ) →
      (has_at spans_have r.rows (key_at c) t || rows c t) ≡ has_at spans_have r.rows (key_at c) t
  none_moved_yet rows none c t = ap (λ b. has_at spans_have r.rows (key_at c) t || b) (none c t) ∙ or_false (has_at spans_have r.rows (key_at c) t)

  pub all_moved : (rows : ℕ → ℕ → Bool) (rest : List (Row (List Span))) → length rest ≡ 0 →
      ((c t : ℕ) → counts (column_variables cs) c ≡ true → (has_at spans_have rest (key_at c) t || rows c t) ≡ has_at spans_have r.rows (key_at c) t) →
      ((c t : ℕ) → counts (column_variables cs) c ≡ false → rows c t ≡ false) →
      (c t : ℕ) → rows c t ≡ (counts (column_variables cs) c && table_has spans_have r (object_at_number cs c) t)
  all_moved rows (x ∷ rest) end each none c t = absurd (omega (arith, end))
  all_moved rows [] end each none c t = elim (cases_Bool (counts (column_variables cs) c)) [
    | inl e ↦
        each c t e ∙ sym (ap (λ b. b && table_has spans_have r (object_at_number cs c) t) e)
    | inr e ↦ none c t e ∙ sym (ap (λ b. b && table_has spans_have r (object_at_number cs c) t) e)
  ]
