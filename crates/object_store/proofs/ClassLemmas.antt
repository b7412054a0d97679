-- Classes in a map by their names.
use Rattle.std.proofs.Common.{◌≡◌, ℕ, ◌+◌, ◌-◌, ◌<◌, ◌≤◌, Bool, true, false, cond, Option, None, Some, List, [], ◌∷◌, ◌++◌, map, length, take, refl, sym, ap, ◌∙◌, arith, All, subst, length-append, length-take}
use Rattle.std.specs.Prelude.{slice_get, option_and_then, option_map}
use Rattle.std.specs.List.{find, position, list_any, IsDistinct}
use Rattle.std.specs.Map.{keys_of, values_of, lookup}
use Rattle.std.specs.Str.{bytes_eq}
use Rattle.std.specs.Cmp.Lexicographic.{nat_list_eq_equiv}
use Rattle.std.proofs.lemmas.List.{map-append, take-map, length-map}
use Rattle.std.proofs.lemmas.List.Elements.{All-push, All-take}
use Rattle.std.proofs.lemmas.Map.Keys.{IsDistinct-push}
use Rattle.std.proofs.lemmas.Option.{slice_get-map}
use Rattle.history.specs.Catalog.{ClassInfo}
use Rattle.object_store.specs.declared.schema.TheConstants.{CLASS_LIMIT}
use Rattle.object_store.specs.Sound.{IsClass, AreClasses}
use Rattle.object_store.specs.ClassMap.{AreKeyed}
use Rattle.object_store.proofs.Lists.{position-map, find_is, any_is_found, list_any-map, IsDistinct-take}

abbrev pub name_of : ClassInfo → List ℕ
name_of k = k.name

-- a class is found by its key as by its name
pub position_keyed : (name : List ℕ) (es : List (List ℕ × ClassInfo)) → AreKeyed es → position (bytes_eq name) (keys_of es) ≡ position (λ k. bytes_eq name (name_of k)) (values_of es)
position_keyed name es keyed = ap (position (bytes_eq name)) keyed.named ∙ position-map (bytes_eq name) name_of (values_of es)

pub value_at : (es : List (List ℕ × ClassInfo)) (number : ℕ) (e : List ℕ × ClassInfo) → slice_get es number ≡ Some e → slice_get (values_of es) number ≡ Some e.1
value_at es number e at = slice_get-map (λ (e : List ℕ × ClassInfo). e.1) es number ∙ ap (option_map (λ (e : List ℕ × ClassInfo). e.1)) at

-- one more class of a new name
pub AreClasses-append : (classes : List ClassInfo) (k : ClassInfo) → AreClasses classes → IsClass k → length classes < CLASS_LIMIT → find (λ (j : ClassInfo). bytes_eq k.name j.name) classes ≡ None → AreClasses (classes ++ k ∷ [])
AreClasses-append classes k are is fits new = record {
  few = omega (arith, length-append classes (k ∷ []));
  names =
      subst (IsDistinct bytes_eq) (sym (map-append name_of classes (k ∷ [])))
      (IsDistinct-push nat_list_eq_equiv (map name_of classes) k.name are.names
      (list_any-map (bytes_eq k.name) name_of classes ∙ any_is_found (λ (j : ClassInfo). bytes_eq k.name j.name) classes new));
  each = All-push IsClass classes k are.each is;
}

pub AreKeyed-append : (es : List (List ℕ × ClassInfo)) (k : ClassInfo) → AreKeyed es → IsClass k → length (values_of es) < CLASS_LIMIT → find (λ (j : ClassInfo). bytes_eq k.name j.name) (values_of es) ≡ None → AreKeyed (es ++ (k.name, k) ∷ [])
AreKeyed-append es k keyed is fits new =
    let values : values_of (es ++ (k.name, k) ∷ []) ≡ values_of es ++ k ∷ [] = map-append (λ (e : List ℕ × ClassInfo). e.1) es ((k.name, k) ∷ []) in
    record {
      named =
          map-append (λ (e : List ℕ × ClassInfo). e.0) es ((k.name, k) ∷ [])
          ∙ ap (λ ns. ns ++ k.name ∷ []) keyed.named
          ∙ sym (ap (map name_of) values ∙ map-append name_of (values_of es) (k ∷ []));
      classes = subst AreClasses (sym values) (AreClasses-append (values_of es) k keyed.classes is fits new);
    }

pub AreClasses-take : (n : ℕ) (classes : List ClassInfo) → AreClasses classes → AreClasses (take n classes)
AreClasses-take n classes are = record {
  few = omega (arith, length-take n classes, are.few);
  names = subst (IsDistinct bytes_eq) (take-map name_of n classes) (IsDistinct-take bytes_eq n (map name_of classes) are.names);
  each = All-take IsClass n classes are.each;
}

pub AreKeyed-take : (n : ℕ) (es : List (List ℕ × ClassInfo)) → AreKeyed es → AreKeyed (take n es)
AreKeyed-take n es keyed =
    let values : values_of (take n es) ≡ take n (values_of es) = sym (take-map (λ (e : List ℕ × ClassInfo). e.1) n es) in
    record {
      named =
          sym (take-map (λ (e : List ℕ × ClassInfo). e.0) n es)
          ∙ ap (take n) keyed.named
          ∙ take-map name_of n (values_of es)
          ∙ sym (ap (map name_of) values);
      classes = subst AreClasses (sym values) (AreClasses-take n (values_of es) keyed.classes);
    }

-- a class stands where it is found
pub find_keyed : (name : List ℕ) (classes : List ClassInfo) (number : ℕ) (k : ClassInfo) → position (λ j. bytes_eq name (name_of j)) classes ≡ Some number → slice_get classes number ≡ Some k → find (λ j. bytes_eq name (name_of j)) classes ≡ Some k
find_keyed name classes number k first at =
    find_is (λ j. bytes_eq name (name_of j)) classes ∙ ap (option_and_then (slice_get classes)) first ∙ at

pub find_none : (name : List ℕ) (classes : List ClassInfo) → position (λ j. bytes_eq name (name_of j)) classes ≡ None → find (λ j. bytes_eq name (name_of j)) classes ≡ None
find_none name classes none =
    find_is (λ j. bytes_eq name (name_of j)) classes ∙ ap (option_and_then (slice_get classes)) none

lookup_named : (name : List ℕ) (es : List (List ℕ × ClassInfo)) → keys_of es ≡ map name_of (values_of es) → lookup (bytes_eq name) es ≡ find (λ j. bytes_eq name (name_of j)) (values_of es)
lookup_named name [] named = refl
lookup_named name (e ∷ es) named =
    let key : e.0 ≡ name_of e.1 = cc in
    let rest : keys_of es ≡ map name_of (values_of es) = cc in
    ap (λ n. cond (bytes_eq name n) (Some e.1) (lookup (bytes_eq name) es)) key
    ∙ ap (cond (bytes_eq name (name_of e.1)) (Some e.1)) (lookup_named name es rest)

-- the value of a key is the class of that name
pub lookup_keyed : (name : List ℕ) (es : List (List ℕ × ClassInfo)) → AreKeyed es → lookup (bytes_eq name) es ≡ find (λ j. bytes_eq name (name_of j)) (values_of es)
lookup_keyed name es keyed = lookup_named name es keyed.named

-- the entries, once a class of a new name is entered
pub entered : (es : List (List ℕ × ClassInfo)) (name : List ℕ) (k : ClassInfo) (new : List (List ℕ × ClassInfo)) → AreKeyed es → name ≡ k.name → IsClass k → length (values_of es) < CLASS_LIMIT → find (λ j. bytes_eq k.name (name_of j)) (values_of es) ≡ None
    → new ≡ es ++ (name, k) ∷ [] → AreKeyed new × (values_of new ≡ values_of es ++ k ∷ [])
entered es name k new keyed key is fits absent last =
    let last_is : new ≡ es ++ (k.name, k) ∷ [] = last ∙ ap (λ n. es ++ (n, k) ∷ []) key in
    (subst AreKeyed (sym last_is) (AreKeyed-append es k keyed is fits absent), ap (λ es. values_of es) last_is ∙ map-append (λ (e : List ℕ × ClassInfo). e.1) es ((k.name, k) ∷ []))

pub values_of-take_last : (es : List (List ℕ × ClassInfo)) → values_of (take (length es - 1) es) ≡ take (length (values_of es) - 1) (values_of es)
values_of-take_last es =
    sym (take-map (λ (e : List ℕ × ClassInfo). e.1) (length es - 1) es) ∙ ap (λ n. take (n - 1) (values_of es)) (sym (length-map es (λ (e : List ℕ × ClassInfo). e.1)))
