-- The absences that rows over one variable ask for.
use Rattle.std.proofs.Common.{◌≡◌, ℕ, zero, suc, ◌+◌, ◌<◌, ◌≤◌, Bool, true, false, not, ◌&&◌, ◌||◌, Some, List, [], ◌∷◌, length, get_or, take, map, refl, sym, ap, ◌∙◌, subst, inl, inr, arith}
use Rattle.std.specs.Prelude.{slice_get, slice_index, if◌then◌else◌}
use Rattle.std.specs.List.{filter, list_all}
use Rattle.std.specs.List.Sorted.{IsStrictlyIncreasing}
use Rattle.std.specs.Option.{option_map}
use Rattle.std.specs.Str.{bytes_eq}
use Rattle.std.proofs.lemmas.Bool.{and_from, and_parts, or_cases, or_left, or_right}
use Rattle.std.proofs.lemmas.List.{take_more}
use Rattle.tick_set.specs.Ticks.{within}
use Rattle.relation.specs.declared.row.Row.{Row}
use Rattle.relation.specs.Key.{has_id, ids_of_variable, key_below, key_in}
use Rattle.relation.specs.Frames.{Frame, frame, frame_of}
use Rattle.relation.specs.Order.{has_row, keys_over}
use Rattle.relation.specs.Rows.{Table, has_at, table}
use Rattle.evaluator.specs.Keys.{AreAscendingKeys, has_key}
use Rattle.evaluator.specs.inner.Away.{AreAwayFor}
use Rattle.evaluator.specs.inner.Filled.{IsFilled}
use Rattle.evaluator.proofs.FillingLemmas.{at_key, filled_both}
use Rattle.evaluator.proofs.KeyLemmas.{keys_more, keys_none}

-- ---- the keys that are kept of all

all_kept : {X : Type 0} (k : Bool) (p : X → Bool) (x : X) (rest : List X) → p x ≡ true → list_all p rest ≡ true → list_all p (if k then x ∷ rest else rest) ≡ true
all_kept true p x rest h later = and_from _ _ h later
all_kept false p x rest h later = later

pub all_filter : {X : Type 0} (p q : X → Bool) (xs : List X) → list_all p xs ≡ true → list_all p (filter q xs) ≡ true
all_filter p q [] h = refl
all_filter p q (x ∷ xs) h = let parts = and_parts _ _ h in all_kept (q x) p x (filter q xs) parts.0 (all_filter p q xs parts.1)

ascend_kept : (k : Bool) (key : List ℕ) (rest : List (List ℕ)) → list_all (key_below key) rest ≡ true → AreAscendingKeys rest → AreAscendingKeys (if k then key ∷ rest else rest)
ascend_kept true key rest below up = (below, up)
ascend_kept false key rest below up = up

pub ascend_filter : (q : List ℕ → Bool) (keys : List (List ℕ)) → AreAscendingKeys keys → AreAscendingKeys (filter q keys)
ascend_filter q [] up = tt
ascend_filter q (key ∷ keys) up = ascend_kept (q key) key (filter q keys) (all_filter (key_below key) q keys up.0) (ascend_filter q keys up.1)

length_kept : {X : Type 0} (k : Bool) (x : X) (rest : List X) (n : ℕ) → length rest ≤ n → length (if k then x ∷ rest else rest) ≤ suc n
length_kept true x rest n l = omega (arith, l)
length_kept false x rest n l = omega (arith, l)

length_filter : {X : Type 0} (q : X → Bool) (xs : List X) → length (filter q xs) ≤ length xs
length_filter q [] = omega arith
length_filter q (x ∷ xs) = length_kept (q x) x (filter q xs) (length xs) (length_filter q xs)

-- the keys of rows over one variable
pub record AreRowKeys (domains : List (List ℕ)) (var : ℕ) (keys : List (List ℕ)) : Type 0 where
  pub ascend : AreAscendingKeys keys
  pub inside : list_all (key_in domains (var ∷ [])) keys ≡ true
  pub few : length keys ≤ length (ids_of_variable domains var)

pub row_keys : (domains : List (List ℕ)) (var : ℕ) (q : List ℕ → Bool) (keys : List (List ℕ)) → keys ≡ filter q (keys_over domains (var ∷ [])) →
    IsStrictlyIncreasing (ids_of_variable domains var) → AreRowKeys domains var keys
row_keys domains var q keys is up =
    let all = keys_more domains var [] ([] ∷ []) (ids_of_variable domains var) refl up (keys_none domains) in
    subst (AreRowKeys domains var) (sym is) (record {
      ascend = ascend_filter q (keys_over domains (var ∷ [])) all.ascend;
      inside = all_filter (key_in domains (var ∷ [])) q (keys_over domains (var ∷ [])) all.inside;
      few = let count = all.count in let less = length_filter q (keys_over domains (var ∷ [])) in omega (arith, count, less);
    })

-- the keys of all rows
abbrev pub keys_at : {S : Type 0} → Table S → List (List ℕ)
keys_at r = map (λ row. row.key) r.rows

pub rows_keys : {S : Type 0} (rows : Table S) (domains : List (List ℕ)) (var lo hi : ℕ) → frame rows ≡ frame_of domains lo hi → rows.vars ≡ var ∷ [] →
    map (λ row. row.key) rows.rows ≡ filter (has_row rows.rows) (keys_over rows.domains rows.vars) →
    (ids : List ℕ) → ids ≡ ids_of_variable domains var → IsStrictlyIncreasing ids → AreRowKeys domains var (keys_at rows)
rows_keys rows domains var lo hi same one is ids own up =
    row_keys domains var (has_row rows.rows) (keys_at rows)
    (is ∙ (λ i. filter (has_row rows.rows) (keys_over (ap (λ (z : Frame). z.domains) same i) (one i))))
    (subst (λ (z : List ℕ). IsStrictlyIncreasing z) own up)

-- the object of a key
pub own_first : (domains : List (List ℕ)) (var : ℕ) (key : List ℕ) → key_in domains (var ∷ []) key ≡ true → has_id (ids_of_variable domains var) (slice_index key 0) ≡ true
own_first domains var [] h = absurd (let e : false ≡ true = h in cc)
own_first domains var (id ∷ key) h = (and_parts _ _ h).0

pub key_here : {X A : Type 0} (f : X → A) (xs : List X) (i : ℕ) (y : A) → option_map f (slice_get xs i) ≡ Some y → y ≡ get_or (map f xs) i y
key_here f [] i y is = cc
key_here f (x ∷ xs) zero y is = let e : f x ≡ y = cc in sym e
key_here f (x ∷ xs) (suc i) y is = key_here f xs i y is

-- ---- rows that get the ticks of one key after another

before_at : (keys : List (List ℕ)) (i : ℕ) (d : List ℕ) → AreAscendingKeys keys → i < length keys → list_all (λ k. key_below k (get_or keys i d)) (take i keys) ≡ true
before_at [] i d up l = absurd (omega (arith, l))
before_at (key ∷ keys) zero d up l = refl
before_at (key ∷ keys) (suc i) d up l = and_from _ _ (at_key (key_below key) keys i d up.0 (omega (arith, l))) (before_at keys i d up.1 (omega (arith, l)))

module _ {S : Type 0} (member : S → ℕ → Bool) (truth : List ℕ → ℕ → Bool) (keys : List (List ℕ)) (i : ℕ) (key : List ℕ) (a b : Table S)
    (l : i < length keys) (at : key ≡ get_or keys i key) (first : IsFilled member truth (take i keys) a b) where
  pub at_above : a.rows ≡ [] → AreAscendingKeys keys → list_all (λ r. key_below r.key key) b.rows ≡ true
  at_above none up =
      first.upto (λ k. key_below k key) (ap (λ (rs : List (Row S)). list_all (λ r. key_below r.key key) rs) none)
      (subst (λ (z : List ℕ). list_all (λ k. key_below k z) (take i keys) ≡ true) (sym at) (before_at keys i key up l))

  pub filled_at : (c : Table S) → IsFilled member truth (key ∷ []) b c → IsFilled member truth (take (i + 1) keys) a c
  filled_at c second =
      subst (λ (ks : List (List ℕ)). IsFilled member truth ks a c) (sym (take_more keys i key l))
      (filled_both member truth (take i keys) (get_or keys i key ∷ []) a b c first (subst (λ (k : List ℕ). IsFilled member truth (k ∷ []) b c) at second))

pub has_key_of : {S : Type 0} (member : S → ℕ → Bool) (rows : List (Row S)) (k : List ℕ) (t : ℕ) → has_at member rows k t ≡ true → has_key (map (λ r. r.key) rows) k ≡ true
has_key_of member [] k t h = absurd (let e : false ≡ true = h in cc)
has_key_of member (r ∷ rows) k t h =
    elim (or_cases (bytes_eq r.key k && member r.set t) (has_at member rows k t) h) [
      | inl e ↦ or_left (bytes_eq r.key k) (has_key (map (λ row. row.key) rows) k) (and_parts (bytes_eq r.key k) (member r.set t) e).0
      | inr e ↦ or_right (bytes_eq r.key k) (has_key (map (λ row. row.key) rows) k) (has_key_of member rows k t e)
    ]

pub away_all : {S : Type 0} (member : S → ℕ → Bool) (there : ℕ → ℕ → Bool) (domains : List (List ℕ)) (var lo hi : ℕ) (rows start made : Table S) →
    IsFilled member (λ k t. within lo hi t && not (there (slice_index k 0) t)) (keys_at rows) start made →
    start ≡ table (var ∷ []) domains lo hi [] → rows.vars ≡ var ∷ [] → AreAwayFor member there lo hi var rows made
away_all {S = S} member there domains var lo hi rows start made filling from one = λ b is_in t h.
    let truth = λ (k : List ℕ) (s : ℕ). within lo hi s && not (there (slice_index k 0) s) in
    let keys = keys_at rows in
    let key = b var ∷ [] in
    let here = has_key_of member rows.rows key t (subst (λ (vs : List ℕ). has_at member rows.rows (map b vs) t ≡ true) one h) in
    ap (λ (vs : List ℕ). has_at member made.rows (map b vs) t) (filling.head.vars ∙ ap (λ (r : Table S). r.vars) from)
    ∙ filling.ticks key t
    ∙ ap (λ (r : Table S). has_at member r.rows key t || (has_key keys key && truth key t)) from
    ∙ ap (λ (x : Bool). x && truth key t) here
