-- For this crate and for the crates above: all keys of a list of variables.
use Rattle.std.proofs.Common.{◌≡◌, ℕ, suc, ◌+◌, ◌*◌, ◌<◌, true, false, nat_lt, List, [], ◌∷◌, ◌++◌, length, get_or, take, append-nil, length-append, refl, sym, ap, ◌∙◌, subst, inl, inr, arith}
use Rattle.std.specs.List.{flat_map, list_all}
use Rattle.std.specs.List.Sorted.{IsStrictlyIncreasing}
use Rattle.std.specs.Str.{bytes_eq}
use Rattle.std.proofs.lemmas.Bool.{and_from, and_parts, eq-eqb, eqb-true, lt-ltb, or_cases, or_left, or_right}
use Rattle.std.proofs.lemmas.List.Folds.{list_all-append, list_any-append}
use Rattle.std.proofs.lemmas.Grind.{flat_map-append}
use Rattle.std.proofs.lemmas.List.{take_more}
use Rattle.std.proofs.lemmas.List.Kept.{AllPairs-from_increasing}
use Rattle.meaning.specs.Reads.{choices}
use Rattle.relation.specs.Frames.{domain_size}
use Rattle.relation.specs.Key.{has_id, ids_of_variable, key_below, key_in}
use Rattle.relation.specs.Order.{keys_over}
use Rattle.evaluator.specs.Keys.{AreAscendingKeys, AreKeys, has_key}
use Rattle.evaluator.specs.inner.Filled.{keys_behind}
use Rattle.exact.proofs.Items.{all_from_at, all_weaker}

-- each number is below all after it
abbrev pub Rising : List ℕ → Type 0
Rising [] = Unit {0}
Rising (x ∷ xs) = (list_all (nat_lt x) xs ≡ true) × Rising xs

pub rising : (xs : List ℕ) → IsStrictlyIncreasing xs → Rising xs
rising xs up = from_pairs xs (AllPairs-from_increasing xs up)
  where
    from_pairs : (ys : List ℕ) → ((i j : ℕ) (d : ℕ) → i < j → j < length ys → get_or ys i d < get_or ys j d) → Rising ys
    from_pairs [] h = tt
    from_pairs (y ∷ ys) h = (
      all_from_at (nat_lt y) ys (λ k d l. lt-ltb _ _ (h 0 (suc k) d (omega arith) (omega (arith, l)))),
      from_pairs ys (λ i j d l m. h (suc i) (suc j) d (omega (arith, l)) (omega (arith, m))),
    )

-- ---- the keys ascend

below_behind : (id : ℕ) (key : List ℕ) (keys : List (List ℕ)) → list_all (key_below key) keys ≡ true → list_all (key_below (id ∷ key)) (keys_behind id keys) ≡ true
below_behind id key [] h = refl
below_behind id key (k ∷ keys) h =
    let parts : (key_below key k ≡ true) × (list_all (key_below key) keys ≡ true) = and_parts _ _ h in
    and_from _ _ (or_right _ _ (and_from _ _ (eq-eqb id id refl) parts.0)) (below_behind id key keys parts.1)

ascend_behind : (id : ℕ) (keys : List (List ℕ)) → AreAscendingKeys keys → AreAscendingKeys (keys_behind id keys)
ascend_behind id [] up = tt
ascend_behind id (key ∷ keys) up = (below_behind id key keys up.0, ascend_behind id keys up.1)

below_larger : (x y : ℕ) (key : List ℕ) (keys : List (List ℕ)) → nat_lt x y ≡ true → list_all (key_below (x ∷ key)) (keys_behind y keys) ≡ true
below_larger x y key [] l = refl
below_larger x y key (k ∷ keys) l = and_from _ _ (or_left _ _ l) (below_larger x y key keys l)

below_all_larger : (x : ℕ) (key : List ℕ) (keys : List (List ℕ)) (ids : List ℕ) → list_all (nat_lt x) ids ≡ true →
    list_all (key_below (x ∷ key)) (flat_map (λ id. keys_behind id keys) ids) ≡ true
below_all_larger x key keys [] h = refl
below_all_larger x key keys (y ∷ ids) h =
    let parts : (nat_lt x y ≡ true) × (list_all (nat_lt x) ids ≡ true) = and_parts _ _ h in
    list_all-append (key_below (x ∷ key)) (keys_behind y keys) (flat_map (λ id. keys_behind id keys) ids)
    ∙ and_from _ _ (below_larger x y key keys parts.0) (below_all_larger x key keys ids parts.1)

ascend_append : (x : ℕ) (keys : List (List ℕ)) (rest : List (List ℕ)) → ((key : List ℕ) → list_all (key_below (x ∷ key)) rest ≡ true) →
    AreAscendingKeys (keys_behind x keys) → AreAscendingKeys rest → AreAscendingKeys (keys_behind x keys ++ rest)
ascend_append x [] rest below up later = later
ascend_append x (key ∷ keys) rest below up later = (
  list_all-append (key_below (x ∷ key)) (keys_behind x keys) rest ∙ and_from _ _ up.0 (below key),
  ascend_append x keys rest below up.1 later,
)

ascend_all : (keys : List (List ℕ)) (ids : List ℕ) → AreAscendingKeys keys → Rising ids → AreAscendingKeys (flat_map (λ id. keys_behind id keys) ids)
ascend_all keys [] up rise = tt
ascend_all keys (x ∷ ids) up rise =
    ascend_append x keys (flat_map (λ id. keys_behind id keys) ids) (λ key. below_all_larger x key keys ids rise.0) (ascend_behind x keys up) (ascend_all keys ids up rise.1)

pub own_ids : (ids : List ℕ) → list_all (has_id ids) ids ≡ true
own_ids [] = refl
own_ids (x ∷ ids) =
    and_from _ _ (or_left _ _ (eq-eqb x x refl)) (all_weaker (has_id ids) (has_id (x ∷ ids)) (λ y h. or_right _ _ h) ids (own_ids ids))

-- ---- they are in the domains

module _ (domains : List (List ℕ)) (var : ℕ) (vars : List ℕ) where
  inside_behind : (id : ℕ) (keys : List (List ℕ)) → has_id (ids_of_variable domains var) id ≡ true → list_all (key_in domains vars) keys ≡ true →
      list_all (key_in domains (var ∷ vars)) (keys_behind id keys) ≡ true
  inside_behind id [] h k = refl
  inside_behind id (key ∷ keys) h k =
      let parts : (key_in domains vars key ≡ true) × (list_all (key_in domains vars) keys ≡ true) = and_parts _ _ k in
      and_from _ _ (and_from _ _ h parts.0) (inside_behind id keys h parts.1)

  inside_all : (keys : List (List ℕ)) (ids : List ℕ) → list_all (has_id (ids_of_variable domains var)) ids ≡ true → list_all (key_in domains vars) keys ≡ true →
      list_all (key_in domains (var ∷ vars)) (flat_map (λ id. keys_behind id keys) ids) ≡ true
  inside_all keys [] h k = refl
  inside_all keys (x ∷ ids) h k =
      let parts : (has_id (ids_of_variable domains var) x ≡ true) × (list_all (has_id (ids_of_variable domains var)) ids ≡ true) = and_parts _ _ h in
      list_all-append (key_in domains (var ∷ vars)) (keys_behind x keys) (flat_map (λ id. keys_behind id keys) ids)
      ∙ and_from _ _ (inside_behind x keys parts.0 k) (inside_all keys ids parts.1 k)

  -- ---- they are all

  has_behind : (id : ℕ) (key : List ℕ) (keys : List (List ℕ)) → has_key keys key ≡ true → has_key (keys_behind id keys) (id ∷ key) ≡ true
  has_behind id key [] h = h
  has_behind id key (k ∷ keys) h =
      elim (or_cases _ _ h) [
        | inl e ↦ or_left _ _ (and_from _ _ (eq-eqb id id refl) e)
        | inr e ↦ or_right _ _ (has_behind id key keys e)
      ]

  has_all : (id : ℕ) (key : List ℕ) (keys : List (List ℕ)) (ids : List ℕ) → has_id ids id ≡ true → has_key keys key ≡ true →
      has_key (flat_map (λ i. keys_behind i keys) ids) (id ∷ key) ≡ true
  has_all id key keys [] h k = absurd (false_is_not_true h)
    where
      false_is_not_true : false ≡ true → ⊥
      false_is_not_true e = cc
  has_all id key keys (x ∷ ids) h k =
      list_any-append (λ m. bytes_eq m (id ∷ key)) (keys_behind x keys) (flat_map (λ i. keys_behind i keys) ids)
      ∙ elim (or_cases _ _ h) [
        | inl e ↦ or_left _ _ (subst (λ (z : ℕ). has_key (keys_behind z keys) (id ∷ key) ≡ true) (sym (eqb-true x id e)) (has_behind id key keys k))
        | inr e ↦ or_right _ _ (has_all id key keys ids e k)
      ]

  length_all : (keys : List (List ℕ)) (ids : List ℕ) → length (flat_map (λ id. keys_behind id keys) ids) ≡ length ids * length keys
  length_all keys [] = let e : 0 ≡ 0 * length keys = grind arith in e
  length_all keys (x ∷ ids) =
      let later : length (flat_map (λ id. keys_behind id keys) ids) ≡ length ids * length keys = length_all keys ids in
      grind (arith, later, length-append (keys_behind x keys) (flat_map (λ id. keys_behind id keys) ids), length_behind x keys)
    where
      length_behind : (id : ℕ) (zs : List (List ℕ)) → length (keys_behind id zs) ≡ length zs
      length_behind id [] = refl
      length_behind id (z ∷ zs) = ap suc (length_behind id zs)

  -- each object of a variable before all keys of the later ones
  pub keys_more : (later : List (List ℕ)) (ids : List ℕ) → ids ≡ ids_of_variable domains var → IsStrictlyIncreasing ids → AreKeys domains vars later →
      AreKeys domains (var ∷ vars) (flat_map (λ id. keys_behind id later) ids)
  keys_more later ids same up are = record {
    ascend = ascend_all later ids are.ascend (rising ids up);
    inside = inside_all later ids (subst (λ (z : List ℕ). list_all (has_id z) ids ≡ true) same (own_ids ids)) are.inside;
    all = every;
    count = length_all later ids ∙ ap (λ (n : ℕ). length ids * n) are.count ∙ (λ i. length (same i) * choices (domain_size domains) vars);
  }
    where
      every : (key : List ℕ) → key_in domains (var ∷ vars) key ≡ true → has_key (flat_map (λ id. keys_behind id later) ids) key ≡ true
      every [] h = absurd (let e : false ≡ true = h in cc)
      every (id ∷ key) h =
          let parts : (has_id (ids_of_variable domains var) id ≡ true) × (key_in domains vars key ≡ true) = and_parts _ _ h in
          has_all id key later ids (subst (λ (z : List ℕ). has_id z id ≡ true) (sym same) parts.0) (are.all key parts.1)

-- without a variable there is one key
pub keys_none : (domains : List (List ℕ)) → AreKeys domains [] ([] ∷ [])
keys_none domains = record { ascend = (refl, tt); inside = refl; all = one; count = refl }
  where
    one : (key : List ℕ) → key_in domains [] key ≡ true → has_key ([] ∷ []) key ≡ true
    one [] h = refl
    one (id ∷ key) h = absurd (let e : false ≡ true = h in cc)

-- all keys in their order
pub keys_over_all : (domains : List (List ℕ)) → ((var : ℕ) → IsStrictlyIncreasing (ids_of_variable domains var)) → (vars : List ℕ) → AreKeys domains vars (keys_over domains vars)
keys_over_all domains up [] = keys_none domains
keys_over_all domains up (var ∷ vars) =
    keys_more domains var vars (keys_over domains vars) (ids_of_variable domains var) refl (up var) (keys_over_all domains up vars)

-- a key has as many objects as there are variables
pub key_length : (domains : List (List ℕ)) (vars key : List ℕ) → key_in domains vars key ≡ true → length key ≡ length vars
key_length domains [] [] h = refl
key_length domains [] (id ∷ key) h = absurd (let e : false ≡ true = h in cc)
key_length domains (var ∷ vars) [] h = absurd (let e : false ≡ true = h in cc)
key_length domains (var ∷ vars) (id ∷ key) h = ap suc (key_length domains vars key (and_parts _ _ h).1)

pub keys_short : (domains : List (List ℕ)) (vars : List ℕ) (limit : ℕ) (keys : List (List ℕ)) → length vars < limit → list_all (key_in domains vars) keys ≡ true →
    list_all (λ key. nat_lt (length key) limit) keys ≡ true
keys_short domains vars limit [] l h = refl
keys_short domains vars limit (key ∷ keys) l h =
    let parts : (key_in domains vars key ≡ true) × (list_all (key_in domains vars) keys ≡ true) = and_parts _ _ h in
    let same : length key ≡ length vars = key_length domains vars key parts.0 in
    and_from _ _ (lt-ltb _ _ (omega (arith, same, l))) (keys_short domains vars limit keys l parts.1)

pub flat_map-step : {X A : Type 0} (f : X → List A) (xs : List X) (i : ℕ) (d : X) → i < length xs → flat_map f (take (i + 1) xs) ≡ flat_map f (take i xs) ++ f (get_or xs i d)
flat_map-step f xs i d l =
    ap (flat_map f) (take_more xs i d l) ∙ flat_map-append f (take i xs) (get_or xs i d ∷ []) ∙ ap (λ ys. flat_map f (take i xs) ++ ys) (append-nil (f (get_or xs i d)))
