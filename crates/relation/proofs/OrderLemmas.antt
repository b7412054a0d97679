-- For this crate and for the crates above: the order of a relation's rows. Ascending lists with the same keys are one.
use Rattle.std.proofs.Common.{◌≡◌, ℕ, ◌+◌, ◌<◌, Bool, true, false, ◌&&◌, ◌||◌, ◌==◌, nat_lt, List, [], ◌∷◌, ◌++◌, if◌then◌else◌, map, refl, sym, ap, ◌∙◌, inl, inr, arith, get_or, suc, length}
use Rattle.std.specs.List.{filter, flat_map, list_all, list_any}
use Rattle.std.specs.List.Sorted.{IsStrictlyIncreasing}
use Rattle.std.specs.Str.{bytes_eq}
use Rattle.std.proofs.lemmas.Bool.{and_from, and_parts, cases_Bool, eq-eqb, false≢true, lt-ltb, or_cases, or_from, or_left, or_parts, or_right}
use Rattle.std.proofs.lemmas.List.Folds.{list_all-append, list_all-map, list_any-append}
use Rattle.relation.specs.declared.row.Row.{Row}
use Rattle.relation.specs.Key.{has_id, ids_of_variable, key_below, key_in}
use Rattle.relation.specs.Order.{has_row, keys_over}
use Rattle.relation.specs.Rows.{AreRows, has_at}
use Rattle.relation.proofs.EntryLemmas.{below_trans}
use Rattle.relation.proofs.KeyLemmas.{below_apart, below_not_same}
use Rattle.relation.proofs.UnionLemmas.{IsFrom, from_rising}
use Rattle.exact.proofs.Truths.{and_over_or, false_is_and}
use Rattle.exact.proofs.Lists.{bytes_eq_refl, bytes_eq_true}

abbrev is_in : List (List ℕ) → List ℕ → Bool
is_in keys k = list_any (λ x. bytes_eq x k) keys

-- each key is below all that come after it
abbrev Ascends : List (List ℕ) → Type 0
Ascends [] = Unit {0}
Ascends (x ∷ xs) = (list_all (key_below x) xs ≡ true) × Ascends xs

not_below_itself : (k : List ℕ) → key_below k k ≡ true → ⊥
not_below_itself k h = false≢true (sym (below_not_same k k h) ∙ bytes_eq_refl k)

not_above : (x : List ℕ) (xs : List (List ℕ)) → list_all (key_below x) xs ≡ true → is_in xs x ≡ false
not_above x [] h = refl
not_above x (y ∷ ys) h =
    let parts : (key_below x y ≡ true) × (list_all (key_below x) ys ≡ true) = and_parts _ _ h in
    or_from _ _ (below_apart x y parts.0) (not_above x ys parts.1)

below_member : (x k : List ℕ) (xs : List (List ℕ)) → list_all (key_below x) xs ≡ true → is_in xs k ≡ true → key_below x k ≡ true
below_member x k [] h e = absurd (false≢true e)
below_member x k (y ∷ ys) h e =
    let parts : (key_below x y ≡ true) × (list_all (key_below x) ys ≡ true) = and_parts _ _ h in
    elim (or_cases (bytes_eq y k) (is_in ys k) e) [
      | inl here ↦ ap (key_below x) (sym (bytes_eq_true y k here)) ∙ parts.0
      | inr later ↦ below_member x k ys parts.1 later
    ]

-- ascending lists with the same members are one
pub same_members : (xs ys : List (List ℕ)) → Ascends xs → Ascends ys → ((k : List ℕ) → is_in xs k ≡ is_in ys k) → xs ≡ ys
same_members [] [] a b h = refl
same_members [] (y ∷ ys) a b h = absurd (false≢true (h y ∙ or_left (bytes_eq y y) (is_in ys y) (bytes_eq_refl y)))
same_members (x ∷ xs) [] a b h = absurd (false≢true (sym (h x) ∙ or_left (bytes_eq x x) (is_in xs x) (bytes_eq_refl x)))
same_members (x ∷ xs) (y ∷ ys) a b h = λ i. first i ∷ same_members xs ys a.1 b.1 later i
  where
    first : x ≡ y
    first = elim (or_cases (bytes_eq y x) (is_in ys x) (sym (h x) ∙ or_left (bytes_eq x x) (is_in xs x) (bytes_eq_refl x))) [
      | inl e ↦ sym (bytes_eq_true y x e)
      | inr after ↦ elim (or_cases (bytes_eq x y) (is_in xs y) (h y ∙ or_left (bytes_eq y y) (is_in ys y) (bytes_eq_refl y))) [
        | inl e ↦ bytes_eq_true x y e
        | inr before ↦ absurd (not_below_itself x (below_trans x y x (below_member x y xs a.0 before) (below_member y x ys b.0 after)))
      ]
    ]

    later : (k : List ℕ) → is_in xs k ≡ is_in ys k
    later k = elim (cases_Bool (bytes_eq x k)) [
      | inl e ↦
          ap (is_in xs) (sym (bytes_eq_true x k e)) ∙ not_above x xs a.0
          ∙ sym (ap (is_in ys) (sym (bytes_eq_true x k e) ∙ first) ∙ not_above y ys b.0)
      | inr n ↦
          sym (ap (λ (z : Bool). z || is_in xs k) n) ∙ h k
          ∙ ap (λ (z : List ℕ). bytes_eq z k || is_in ys k) (sym first) ∙ ap (λ (z : Bool). z || is_in ys k) n
    ]

-- what is kept of a list
kept_above : (p : List ℕ → Bool) (x : List ℕ) (xs : List (List ℕ)) → list_all (key_below x) xs ≡ true → list_all (key_below x) (filter p xs) ≡ true
kept_above p x [] h = refl
kept_above p x (y ∷ ys) h =
    let parts : (key_below x y ≡ true) × (list_all (key_below x) ys ≡ true) = and_parts _ _ h in
    elim (p y) as (λ b. list_all (key_below x) (if b then y ∷ filter p ys else filter p ys) ≡ true) [
      | true ↦ and_from (key_below x y) (list_all (key_below x) (filter p ys)) parts.0 (kept_above p x ys parts.1)
      | false ↦ kept_above p x ys parts.1
    ]

kept_ascends : (p : List ℕ → Bool) (xs : List (List ℕ)) → Ascends xs → Ascends (filter p xs)
kept_ascends p [] h = tt
kept_ascends p (x ∷ xs) h =
    elim (p x) as (λ b. Ascends (if b then x ∷ filter p xs else filter p xs)) [
      | true ↦ (kept_above p x xs h.0, kept_ascends p xs h.1)
      | false ↦ kept_ascends p xs h.1
    ]

kept_here : (e i q : Bool) → (e ≡ true → q ≡ true) → (e || (i && q)) ≡ ((e || i) && q)
kept_here true i q f = sym (f refl)
kept_here false i q f = refl

left_here : (e i q : Bool) → (e ≡ true → q ≡ false) → (i && q) ≡ ((e || i) && q)
left_here true true q f = refl
left_here true false q f = sym (f refl)
left_here false i q f = refl

kept_members : (p : List ℕ → Bool) (xs : List (List ℕ)) (k : List ℕ) → is_in (filter p xs) k ≡ (is_in xs k && p k)
kept_members p [] k = refl
kept_members p (x ∷ xs) k = elim (cases_Bool (p x)) [
  | inl e ↦
      ap (λ (b : Bool). is_in (if b then x ∷ filter p xs else filter p xs) k) e
      ∙ ap (λ (b : Bool). bytes_eq x k || b) (kept_members p xs k)
      ∙ kept_here (bytes_eq x k) (is_in xs k) (p k) (λ s. ap p (sym (bytes_eq_true x k s)) ∙ e)
  | inr n ↦
      ap (λ (b : Bool). is_in (if b then x ∷ filter p xs else filter p xs) k) n
      ∙ kept_members p xs k
      ∙ left_here (bytes_eq x k) (is_in xs k) (p k) (λ s. ap p (sym (bytes_eq_true x k s)) ∙ n)
]

-- the keys that begin with one object, and with those of a list
abbrev block : ℕ → List (List ℕ) → List (List ℕ)
block id keys = map (λ later. id ∷ later) keys

abbrev blocks : List ℕ → List (List ℕ) → List (List ℕ)
blocks ids keys = flat_map (λ id. block id keys) ids

either : (e f q : Bool) → ((e && q) || (f && q)) ≡ ((e || f) && q)
either true true true = refl
either true true false = refl
either true false true = refl
either true false false = refl
either false f q = refl

in_block : (id : ℕ) (keys : List (List ℕ)) (y : ℕ) (k : List ℕ) → is_in (block id keys) (y ∷ k) ≡ (id == y && is_in keys k)
in_block id [] y k = false_is_and (id == y)
in_block id (x ∷ keys) y k =
    ap (λ (b : Bool). (id == y && bytes_eq x k) || b) (in_block id keys y k) ∙ and_over_or (id == y) (bytes_eq x k) (is_in keys k)

in_blocks : (ids : List ℕ) (keys : List (List ℕ)) (y : ℕ) (k : List ℕ) → is_in (blocks ids keys) (y ∷ k) ≡ (has_id ids y && is_in keys k)
in_blocks [] keys y k = refl
in_blocks (id ∷ ids) keys y k =
    list_any-append (λ x. bytes_eq x (y ∷ k)) (block id keys) (blocks ids keys)
    ∙ (λ i. in_block id keys y k i || in_blocks ids keys y k i)
    ∙ either (id == y) (has_id ids y) (is_in keys k)

none_in_block : (id : ℕ) (keys : List (List ℕ)) → is_in (block id keys) [] ≡ false
none_in_block id [] = refl
none_in_block id (x ∷ keys) = none_in_block id keys

none_in_blocks : (ids : List ℕ) (keys : List (List ℕ)) → is_in (blocks ids keys) [] ≡ false
none_in_blocks [] keys = refl
none_in_blocks (id ∷ ids) keys =
    list_any-append (λ x. bytes_eq x []) (block id keys) (blocks ids keys) ∙ or_from _ _ (none_in_block id keys) (none_in_blocks ids keys)

in_keys : (domains : List (List ℕ)) (vars k : List ℕ) → is_in (keys_over domains vars) k ≡ key_in domains vars k
in_keys domains [] [] = refl
in_keys domains [] (y ∷ k) = refl
in_keys domains (var ∷ vars) [] = none_in_blocks (ids_of_variable domains var) (keys_over domains vars)
in_keys domains (var ∷ vars) (y ∷ k) =
    in_blocks (ids_of_variable domains var) (keys_over domains vars) y k ∙ ap (λ (b : Bool). has_id (ids_of_variable domains var) y && b) (in_keys domains vars k)

block_above : (id j : ℕ) (l : List ℕ) (keys : List (List ℕ)) → id < j → list_all (key_below (id ∷ l)) (block j keys) ≡ true
block_above id j l [] h = refl
block_above id j l (x ∷ keys) h = and_from _ _ (or_left (nat_lt id j) (id == j && key_below l x) (lt-ltb id j h)) (block_above id j l keys h)

blocks_above : (id n : ℕ) (l ids : List ℕ) (keys : List (List ℕ)) → id < n → IsFrom n ids → list_all (key_below (id ∷ l)) (blocks ids keys) ≡ true
blocks_above id n l [] keys h from = refl
blocks_above id n l (j ∷ ids) keys h from =
    list_all-append (key_below (id ∷ l)) (block j keys) (blocks ids keys)
    ∙ and_from _ _ (block_above id j l keys (omega (arith, h, from.0))) (blocks_above id (j + 1) l ids keys (omega (arith, h, from.0)) from.1)

same_block_above : (id : ℕ) (x : List ℕ) (keys : List (List ℕ)) → list_all (key_below x) keys ≡ true → list_all (key_below (id ∷ x)) (block id keys) ≡ true
same_block_above id x [] h = refl
same_block_above id x (y ∷ keys) h =
    let parts : (key_below x y ≡ true) × (list_all (key_below x) keys ≡ true) = and_parts _ _ h in
    and_from _ _ (or_right (nat_lt id id) (id == id && key_below x y) (and_from (id == id) (key_below x y) (eq-eqb id id refl) parts.0)) (same_block_above id x keys parts.1)

block_ascends : (id : ℕ) (keys rest : List (List ℕ)) → Ascends keys → Ascends rest → ((l : List ℕ) → list_all (key_below (id ∷ l)) rest ≡ true) → Ascends (block id keys ++ rest)
block_ascends id [] rest a b h = b
block_ascends id (x ∷ keys) rest a b h =
    (list_all-append (key_below (id ∷ x)) (block id keys) rest ∙ and_from _ _ (same_block_above id x keys a.0) (h x), block_ascends id keys rest a.1 b h)

blocks_ascend : (n : ℕ) (ids : List ℕ) (keys : List (List ℕ)) → IsFrom n ids → Ascends keys → Ascends (blocks ids keys)
blocks_ascend n [] keys from a = tt
blocks_ascend n (id ∷ ids) keys from a =
    block_ascends id keys (blocks ids keys) a (blocks_ascend (id + 1) ids keys from.1 a) (λ l. blocks_above id (id + 1) l ids keys (omega arith) from.1)

keys_ascend : (domains : List (List ℕ)) (vars : List ℕ) → ((var : ℕ) → IsStrictlyIncreasing (ids_of_variable domains var)) → Ascends (keys_over domains vars)
keys_ascend domains [] up = (refl, tt)
keys_ascend domains (var ∷ vars) up = blocks_ascend 0 (ids_of_variable domains var) (keys_over domains vars) (from_rising 0 (ids_of_variable domains var) (up var) (λ l. omega arith)) (keys_ascend domains vars up)

module _ {S : Type 0} (member : S → ℕ → Bool) (domains : List (List ℕ)) (vars : List ℕ) (lo hi : ℕ) where
  rows_ascend : (rows : List (Row S)) → AreRows member domains vars lo hi 0 rows → Ascends (map (λ r. r.key) rows)
  rows_ascend [] is = tt
  rows_ascend (r ∷ rows) is = (list_all-map (key_below r.key) (λ s. s.key) rows ∙ is.1, rows_ascend rows is.2)

  in_rows : (rows : List (Row S)) (k : List ℕ) → is_in (map (λ r. r.key) rows) k ≡ has_row rows k
  in_rows [] k = refl
  in_rows (r ∷ rows) k = ap (λ (b : Bool). bytes_eq r.key k || b) (in_rows rows k)

  row_inside : (rows : List (Row S)) (k : List ℕ) → AreRows member domains vars lo hi 0 rows → has_row rows k ≡ true → key_in domains vars k ≡ true
  row_inside [] k is h = absurd (false≢true h)
  row_inside (r ∷ rows) k is h = elim (or_cases (bytes_eq r.key k) (has_row rows k) h) [
    | inl here ↦ ap (key_in domains vars) (sym (bytes_eq_true r.key k here)) ∙ is.0.inside
    | inr later ↦ row_inside rows k is.2 later
  ]

  -- the keys of the rows are those over the domains that have a row, in their order
  pub rows_in_order : (rows : List (Row S)) → AreRows member domains vars lo hi 0 rows → ((var : ℕ) → IsStrictlyIncreasing (ids_of_variable domains var)) →
      map (λ r. r.key) rows ≡ filter (has_row rows) (keys_over domains vars)
  rows_in_order rows is up =
      same_members (map (λ r. r.key) rows) (filter (has_row rows) (keys_over domains vars)) (rows_ascend rows is) (kept_ascends (has_row rows) (keys_over domains vars) (keys_ascend domains vars up)) members
    where
      within_domains : (x y : Bool) → (x ≡ true → y ≡ true) → x ≡ (y && x)
      within_domains true y f = sym (ap (λ (b : Bool). b && true) (f refl))
      within_domains false y f = false_is_and y

      members : (k : List ℕ) → is_in (map (λ r. r.key) rows) k ≡ is_in (filter (has_row rows) (keys_over domains vars)) k
      members k =
          in_rows rows k
          ∙ within_domains (has_row rows k) (key_in domains vars k) (row_inside rows k is)
          ∙ sym (kept_members (has_row rows) (keys_over domains vars) k ∙ ap (λ (b : Bool). b && has_row rows k) (in_keys domains vars k))

  -- a key with a row has a tick
  pub key_has_tick : (rows : List (Row S)) (k : List ℕ) → AreRows member domains vars lo hi 0 rows → has_row rows k ≡ true → ((t : ℕ) → has_at member rows k t ≡ false) → ⊥
  key_has_tick [] k is h none = false≢true h
  key_has_tick (r ∷ rows) k is h none = elim (or_cases (bytes_eq r.key k) (has_row rows k) h) [
    | inl here ↦ is.0.some (λ t. ap (λ (b : Bool). b && member r.set t) (sym here) ∙ (or_parts (bytes_eq r.key k && member r.set t) (has_at member rows k t) (none t)).0)
    | inr later ↦ key_has_tick rows k is.2 later (λ t. (or_parts (bytes_eq r.key k && member r.set t) (has_at member rows k t) (none t)).1)
  ]

-- what rows tell by their keys and their ticks is told of the keys in their order: with the clauses of
-- `rows_stand_in_order` it is the list of an answer's rows
pub told_in_order : {S X : Type 0} (member : S → ℕ → Bool) (f : List ℕ → (ℕ → Bool) → X) (rows : List (Row S)) (keys : List (List ℕ)) → map (λ r. r.key) rows ≡ keys →
    ((i : ℕ) (d : Row S) → i < length rows → (t : ℕ) → has_at member rows (get_or rows i d).key t ≡ member (get_or rows i d).set t) →
    map (λ r. f r.key (member r.set)) rows ≡ map (λ k. f k (has_at member rows k)) keys
told_in_order {S} member f rows keys same own = each rows own ∙ ap (map (λ k. f k (has_at member rows k))) same
  where
    each : (xs : List (Row S)) → ((i : ℕ) (d : Row S) → i < length xs → (t : ℕ) → has_at member rows (get_or xs i d).key t ≡ member (get_or xs i d).set t) →
        map (λ r. f r.key (member r.set)) xs ≡ map (λ k. f k (has_at member rows k)) (map (λ r. r.key) xs)
    each [] h = refl
    each (x ∷ xs) h =
        let first : (t : ℕ) → has_at member rows x.key t ≡ member x.set t = h 0 x (omega arith) in
        let later : map (λ r. f r.key (member r.set)) xs ≡ map (λ k. f k (has_at member rows k)) (map (λ r. r.key) xs) = each xs (λ j d l. h (suc j) d (omega arith)) in
        λ i. f x.key (λ t. sym (first t) i) ∷ later i
