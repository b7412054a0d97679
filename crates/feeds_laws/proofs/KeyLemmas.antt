-- The keys of targets: lists of numbers of objects, which their names tell apart.
use Rattle.std.proofs.Common.{◌≡◌, ◌∙◌, ℕ, zero, suc, ◌+◌, ◌<◌, ◌≤◌, true, false, List, [], ◌∷◌, ◌++◌, map, length, refl, ap, sym, arith, inl, inr}
use Rattle.std.proofs.lemmas.Bool.{and_from, cases_Bool, false≢true, or_left, or_right}
use Rattle.std.proofs.lemmas.List.{length-map}
use Rattle.std.proofs.lemmas.Slice.Eq.{bytes_eq-Decides}
use Rattle.std.specs.Prelude.{◌==◌, filter, slice_get}
use Rattle.std.specs.List.{AllByRecursion, IsDistinct, enumerate_from, flat_map, list_all, list_any}
use Rattle.std.specs.Option.{option_map_or}
use Rattle.std.specs.Str.{bytes_eq}
use Rattle.formula_shape.specs.declared.limits.TheConstants.{OBJECT_LIMIT}
use Rattle.history.specs.Catalog.{Catalog, ObjectInfo, ids_of, name_of}
use Rattle.meaning.specs.Binding.{product}
use Rattle.replica.specs.Text.{is_free_name, words}
use Rattle.feeds_laws.specs.Targets.{target_of, target_text}
use Rattle.feeds_laws.proofs.TextLemmas.{AreTargets, targets_words}
use Rattle.exact.proofs.Items.{all_joined}

-- ---- Lists

pub all_mapped : {A : Type 0} (P Q : A → Type 0) → ((x : A) → P x → Q x) → (xs : List A) → AllByRecursion P xs → AllByRecursion Q xs
all_mapped P Q more [] all = tt
all_mapped P Q more (x ∷ xs) all = (more x all.0, all_mapped P Q more xs all.1)

all_of_map : {A B : Type 0} (P : B → Type 0) (f : A → B) (xs : List A) → AllByRecursion (λ x. P (f x)) xs → AllByRecursion P (map f xs)
all_of_map P f [] all = tt
all_of_map P f (x ∷ xs) all = (all.0, all_of_map P f xs all.1)

all_of_flat : {A B : Type 0} (P : B → Type 0) (f : A → List B) (xs : List A) → AllByRecursion (λ x. AllByRecursion P (f x)) xs → AllByRecursion P (flat_map f xs)
all_of_flat P f [] all = tt
all_of_flat P f (x ∷ xs) all = all_joined P (f x) (flat_map f xs) all.0 (all_of_flat P f xs all.1)

-- ---- Numbers of objects

abbrev pub IsBelow : ℕ → ℕ → Type 0
IsBelow count id = id < count

below_from : (objects : List ObjectInfo) (from class count : ℕ) → from + length objects ≤ count →
    AllByRecursion (IsBelow count) (map (λ (e : ℕ × ObjectInfo). e.0) (filter (λ (e : ℕ × ObjectInfo). e.1.class == class) (enumerate_from from objects)))
below_from [] from class count upto = tt
below_from (o ∷ objects) from class count upto =
    let later : AllByRecursion (IsBelow count) (map (λ (e : ℕ × ObjectInfo). e.0) (filter (λ (e : ℕ × ObjectInfo). e.1.class == class) (enumerate_from (from + 1) objects))) =
    below_from objects (from + 1) class count (omega (arith, upto)) in
    elim (cases_Bool (o.class == class)) [
      | inl own ↦ rw own (omega (arith, upto), later)
      | inr other ↦ rw other later
    ]

ids_below : (c : Catalog) (class : ℕ) → AllByRecursion (IsBelow (length c.objects)) (ids_of c class)
ids_below c class = below_from c.objects 0 class (length c.objects) (omega arith)

-- so many numbers, each of an object
pub record IsKey (c : Catalog) (count : ℕ) (key : List ℕ) : Type 0 where
  pub long : length key ≡ count
  pub below : AllByRecursion (IsBelow (length c.objects)) key

keys_with : (c : Catalog) (count x : ℕ) → x < length c.objects → (keys : List (List ℕ)) → AllByRecursion (IsKey c count) keys →
    AllByRecursion (IsKey c (suc count)) (map (λ later. x ∷ later) keys)
keys_with c count x within [] all = tt
keys_with c count x within (key ∷ keys) all = (record { long = ap suc all.0.long; below = (within, all.0.below) }, keys_with c count x within keys all.1)

keys_with_all : (c : Catalog) (count : ℕ) (xs : List ℕ) → AllByRecursion (IsBelow (length c.objects)) xs → (keys : List (List ℕ)) → AllByRecursion (IsKey c count) keys →
    AllByRecursion (IsKey c (suc count)) (flat_map (λ x. map (λ later. x ∷ later) keys) xs)
keys_with_all c count [] below keys all = tt
keys_with_all c count (x ∷ xs) below keys all =
    all_joined (IsKey c (suc count)) (map (λ later. x ∷ later) keys) (flat_map (λ x. map (λ later. x ∷ later) keys) xs)
    (keys_with c count x below.0 keys all) (keys_with_all c count xs below.1 keys all)

-- each choice of objects of some classes
pub products_are_keys : (c : Catalog) (class : ℕ → ℕ) (vs : List ℕ) → AllByRecursion (IsKey c (length vs)) (product (map (λ v. ids_of c (class v)) vs))
products_are_keys c class [] = (record { long = refl; below = tt }, tt)
products_are_keys c class (v ∷ vs) =
    keys_with_all c (length vs) (ids_of c (class v)) (ids_below c (class v)) (product (map (λ v. ids_of c (class v)) vs)) (products_are_keys c class vs)

-- ---- Names

abbrev pub IsNamed : ObjectInfo → Type 0
IsNamed o = is_free_name o.name ≡ true

get_named : (objects : List ObjectInfo) (id : ℕ) → AllByRecursion IsNamed objects → id < length objects →
    is_free_name (option_map_or (λ (o : ObjectInfo). o.name) (slice_get objects id) []) ≡ true
get_named [] id all within = absurd (omega arith)
get_named (o ∷ objects) zero all within = all.0
get_named (o ∷ objects) (suc id) all within = get_named objects id all.1 (omega (arith, within))

names_named : (c : Catalog) → AllByRecursion IsNamed c.objects → (key : List ℕ) → AllByRecursion (IsBelow (length c.objects)) key → list_all is_free_name (map (name_of c) key) ≡ true
names_named c named [] below = refl
names_named c named (id ∷ key) below = and_from (is_free_name (name_of c id)) (list_all is_free_name (map (name_of c) key)) (get_named c.objects id named below.0) (names_named c named key below.1)

pub key_targets : (c : Catalog) → AllByRecursion IsNamed c.objects → (count : ℕ) → 0 < count → count ≤ OBJECT_LIMIT → (key : List ℕ) → IsKey c count key → AreTargets (map (name_of c) key)
key_targets c named count some few key is = record {
  each = names_named c named key is.below;
  some = omega (arith, some, is.long, length-map key (name_of c));
  few = omega (arith, few, is.long, length-map key (name_of c));
}

-- no two objects have the same name
abbrev pub AreApart : Catalog → Type 0
AreApart c = IsDistinct bytes_eq (map (λ o. o.name) c.objects)

abbrev name_in : List ObjectInfo → ℕ → List ℕ
name_in objects id = option_map_or (λ o. o.name) (slice_get objects id) []

name_there : (objects : List ObjectInfo) (id : ℕ) → id < length objects → list_any (bytes_eq (name_in objects id)) (map (λ o. o.name) objects) ≡ true
name_there [] id within = absurd (omega arith)
name_there (o ∷ objects) zero within = or_left (bytes_eq o.name o.name) (list_any (bytes_eq o.name) (map (λ (o : ObjectInfo). o.name) objects)) ((bytes_eq-Decides o.name o.name).1 refl)
name_there (o ∷ objects) (suc id) within =
    or_right (bytes_eq (name_in objects id) o.name) (list_any (bytes_eq (name_in objects id)) (map (λ (o : ObjectInfo). o.name) objects)) (name_there objects id (omega (arith, within)))

none_alike : (name : List ℕ) (others : List (List ℕ)) → AllByRecursion (λ other. bytes_eq name other ≡ false) others → list_any (bytes_eq name) others ≡ false
none_alike name [] all = refl
none_alike name (other ∷ others) all = rw all.0 (none_alike name others all.1)

same_id : (objects : List ObjectInfo) → IsDistinct bytes_eq (map (λ o. o.name) objects) → (i j : ℕ) → i < length objects → j < length objects → name_in objects i ≡ name_in objects j → i ≡ j
unfolding IsDistinct
same_id [] apart i j hi hj e = absurd (omega arith)
same_id (o ∷ objects) apart zero zero hi hj e = refl
same_id (o ∷ objects) apart zero (suc j) hi hj e =
    let found : list_any (bytes_eq o.name) (map (λ (o : ObjectInfo). o.name) objects) ≡ true =
    ap (λ n. list_any (bytes_eq n) (map (λ (o : ObjectInfo). o.name) objects)) e ∙ name_there objects j (omega (arith, hj)) in
    absurd (false≢true (sym (none_alike o.name (map (λ (o : ObjectInfo). o.name) objects) apart.0) ∙ found))
same_id (o ∷ objects) apart (suc i) zero hi hj e =
    let found : list_any (bytes_eq o.name) (map (λ (o : ObjectInfo). o.name) objects) ≡ true =
    ap (λ n. list_any (bytes_eq n) (map (λ (o : ObjectInfo). o.name) objects)) (sym e) ∙ name_there objects i (omega (arith, hi)) in
    absurd (false≢true (sym (none_alike o.name (map (λ (o : ObjectInfo). o.name) objects) apart.0) ∙ found))
same_id (o ∷ objects) apart (suc i) (suc j) hi hj e = ap suc (same_id objects apart.1 i j (omega (arith, hi)) (omega (arith, hj)) e)

same_names : (c : Catalog) → AreApart c → (k l : List ℕ) → AllByRecursion (IsBelow (length c.objects)) k → AllByRecursion (IsBelow (length c.objects)) l → map (name_of c) k ≡ map (name_of c) l → k ≡ l
same_names c apart [] [] hk hl e = refl
same_names c apart [] (j ∷ l) hk hl e = absurd (cc)
same_names c apart (i ∷ k) [] hk hl e = absurd (cc)
same_names c apart (i ∷ k) (j ∷ l) hk hl e =
    let first : name_of c i ≡ name_of c j = cc in
    let rest : map (name_of c) k ≡ map (name_of c) l = cc in
    let id : i ≡ j = same_id c.objects apart i j hk.0 hl.0 first in
    let later : k ≡ l = same_names c apart k l hk.1 hl.1 rest in
    ap (λ i. i ∷ k) id ∙ ap (λ k. j ∷ k) later

-- what is told of a key tells the key
pub one_key : (c : Catalog) → AllByRecursion IsNamed c.objects → AreApart c → (count : ℕ) → 0 < count → count ≤ OBJECT_LIMIT → (k l : List ℕ) → IsKey c count k → IsKey c count l →
    target_of c k ≡ target_of c l → k ≡ l
one_key c named apart count some few k l hk hl e =
    let names : map (name_of c) k ≡ map (name_of c) l =
    sym (targets_words (map (name_of c) k) (key_targets c named count some few k hk)) ∙ ap words e ∙ targets_words (map (name_of c) l) (key_targets c named count some few l hl) in
    same_names c apart k l hk.below hl.below names

-- ---- More objects

name_stays : (objects more : List ObjectInfo) (id : ℕ) → id < length objects → name_in (objects ++ more) id ≡ name_in objects id
name_stays [] more id within = absurd (omega arith)
name_stays (o ∷ objects) more zero within = refl
name_stays (o ∷ objects) more (suc id) within = name_stays objects more id (omega (arith, within))

module _ (c d : Catalog) (more : List ObjectInfo) (grown : d.objects ≡ c.objects ++ more) where
  names_stay : (key : List ℕ) → AllByRecursion (IsBelow (length c.objects)) key → map (name_of d) key ≡ map (name_of c) key
  names_stay [] below = refl
  names_stay (id ∷ key) below =
      let first : name_of d id ≡ name_of c id = ap (λ objects. name_in objects id) grown ∙ name_stays c.objects more id below.0 in
      ap (λ n. n ∷ map (name_of d) key) first ∙ ap (λ ns. name_of c id ∷ ns) (names_stay key below.1)

  pub target_stays : (count : ℕ) (key : List ℕ) → IsKey c count key → target_of d key ≡ target_of c key
  target_stays count key is = ap target_text (names_stay key is.below)
