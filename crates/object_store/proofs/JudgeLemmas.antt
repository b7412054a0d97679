-- The faults of a store, by the places that the code found.
use Rattle.std.proofs.Common.{◌≡◌, ℕ, ◌<◌, ◌==◌, Bool, true, false, cond, ◌&&◌, not, Option, None, Some, List, [], ◌∷◌, map, length, refl, sym, ap, subst, ◌∙◌}
use Rattle.std.specs.Prelude.{slice_get, option_and_then, option_map, unwrap_or, is_some, is_none, nat_le}
use Rattle.std.specs.List.{find, position}
use Rattle.std.specs.Option.{option_map_or}
use Rattle.std.specs.Str.{bytes_eq}
use Rattle.std.proofs.lemmas.Option.{same_Some, none-some, slice_get_within}
use Rattle.std.proofs.lemmas.List.{length-map}
use Rattle.motion.specs.declared.cell.NamedSet.{NamedSet}
use Rattle.motion.specs.declared.cell.Place.{Place}
use Rattle.motion.specs.Timeline.{state_at}
use Rattle.history.specs.Catalog.{ClassInfo, ObjectInfo, class_of, number_of_class, object_of, attributes_of_class, names_in}
use Rattle.history.specs.State.{attributes_of_object}
use Rattle.object_store.specs.Contents.{StoredObject, Contents, attributes_of_number, object_info, catalog_of, is_named, state_of, ids_in, object_name, is_present_at}
use Rattle.object_store.specs.Effects.{number_or_first}
use Rattle.object_store.specs.Faults.{class_of_object, is_elsewhere, is_past_capacity, insert_fault, update_fault, fault_of_insert, fault_of_update}
use Rattle.object_store.proofs.Lists.{find_is, find-map}
use Rattle.object_store.proofs.IdLemmas.{names-ids}

-- ---- the object of a name

-- what stands at a index that was found
abbrev pub object_at : List StoredObject → Option ℕ → Option StoredObject
object_at objects index = option_and_then (slice_get objects) index

pub object_found : (s : Contents) (name : List ℕ) (index : Option ℕ) → index ≡ position (is_named name) s.objects → find (is_named name) s.objects ≡ object_at s.objects index
object_found s name index is = find_is (is_named name) s.objects ∙ ap (object_at s.objects) (sym is)

pub info_found : (s : Contents) (name : List ℕ) → object_of (catalog_of s) name ≡ option_map object_info (find (is_named name) s.objects)
info_found s name = find-map (λ (i : ObjectInfo). bytes_eq name i.name) object_info s.objects

present_step : (now : ℕ) (found : Option StoredObject) → is_some (option_and_then (λ (o : StoredObject). state_at o.epochs now) found) ≡ option_map_or (is_present_at now) found false
present_step now None = refl
present_step now (Some o) = refl

-- whether the object of a name is present
pub present_found : (s : Contents) (name : List ℕ) (now : ℕ) → is_some (state_of s name now) ≡ option_map_or (is_present_at now) (find (is_named name) s.objects) false
present_found s name now = present_step now (find (is_named name) s.objects)

pub state_of_found : (s : Contents) (name : List ℕ) (o : StoredObject) (now : ℕ) → find (is_named name) s.objects ≡ Some o → state_of s name now ≡ state_at o.epochs now
state_of_found s name o now found = ap (option_and_then (λ (o : StoredObject). state_at o.epochs now)) found

-- ---- the class of a name

-- a class was found by its name
pub record HasClass (classes : List ClassInfo) (class : List ℕ) (number : ℕ) (k : ClassInfo) : Type 0 where
  pub first : position (λ (j : ClassInfo). bytes_eq class j.name) classes ≡ Some number
  pub found : find (λ (j : ClassInfo). bytes_eq class j.name) classes ≡ Some k
  pub there : slice_get classes number ≡ Some k

passes_step : {X : Type 0} (q : X → Bool) (b : Bool) (y x : X) (rest : Option X) → q y ≡ b → cond b (Some y) rest ≡ Some x → (rest ≡ Some x → q x ≡ true) → q x ≡ true
passes_step q true y x rest is found later = subst (λ z. q z ≡ true) (same_Some y x found) is
passes_step q false y x rest is found later = later found

-- what is found passes the test
pub find_passes : {X : Type 0} (q : X → Bool) (xs : List X) (x : X) → find q xs ≡ Some x → q x ≡ true
find_passes q [] x found = absurd (none-some x found)
find_passes q (y ∷ ys) x found = passes_step q (q y) y x (find q ys) refl found (find_passes q ys x)

module _ (classes : List ClassInfo) (class : List ℕ) (number : ℕ) (k : ClassInfo) (has : HasClass classes class number k) where
  pub number_is : number_or_first classes class ≡ number
  number_is = ap (λ r. unwrap_or r 0) has.first

  pub within_classes : number < length classes
  within_classes = slice_get_within classes number k has.there

  pub attributes_are : attributes_of_number classes number ≡ k.attributes
  attributes_are = ap (λ r. option_map_or (λ (k : ClassInfo). k.attributes) r []) has.there

-- ---- an insert

elsewhere_step : (number : ℕ) (found : Option StoredObject)
    → option_map_or (λ (i : ObjectInfo). not (i.class == number)) (option_map object_info found) false ≡ option_map_or (λ (o : StoredObject). not (o.class == number)) found false
elsewhere_step number None = refl
elsewhere_step number (Some o) = refl

none_step : {X Y : Type 0} (f : X → Y) (found : Option X) → is_none (option_map f found) ≡ is_none found
none_step f None = refl
none_step f (Some x) = refl

module _ (s : Contents) (class : List ℕ) (number : ℕ) (k : ClassInfo) (has : HasClass s.classes class number k) where
  -- the class has had as many names as it has ids
  pub names_are : names_in (catalog_of s) (number_of_class (catalog_of s) class) ≡ map (object_name s.objects) (ids_in s.objects number)
  names_are = ap (names_in (catalog_of s)) has.first ∙ sym (names-ids s number)

  pub elsewhere_found : (name : List ℕ) → is_elsewhere (catalog_of s) class name ≡ option_map_or (λ (o : StoredObject). not (o.class == number)) (find (is_named name) s.objects) false
  elsewhere_found name =
      ap (λ r. option_map_or (λ (i : ObjectInfo). not (option_map_or (λ n. i.class == n) r false)) (object_of (catalog_of s) name) false) has.first
      ∙ ap (λ r. option_map_or (λ (i : ObjectInfo). not (i.class == number)) r false) (info_found s name)
      ∙ elsewhere_step number (find (is_named name) s.objects)

  pub past_found : (name : List ℕ) → is_past_capacity (catalog_of s) class name ≡ (is_none (find (is_named name) s.objects) && nat_le k.capacity (length (ids_in s.objects number)))
  past_found name =
      let known = names_in (catalog_of s) (number_of_class (catalog_of s) class) in
      ap (λ r. is_none r && option_map_or (λ (k : ClassInfo). nat_le k.capacity (length known)) (class_of (catalog_of s) class) false) (info_found s name)
      ∙ ap (λ b. b && option_map_or (λ (k : ClassInfo). nat_le k.capacity (length known)) (class_of (catalog_of s) class) false) (none_step object_info (find (is_named name) s.objects))
      ∙ ap (λ r. is_none (find (is_named name) s.objects) && option_map_or (λ (k : ClassInfo). nat_le k.capacity (length known)) r false) has.found
      ∙ ap (λ n. is_none (find (is_named name) s.objects) && nat_le k.capacity n) (ap length names_are ∙ length-map (ids_in s.objects number) (object_name s.objects))

  -- the fault of an insert
  pub judged_insert : (name : List ℕ) (now : ℕ) (place : Place) (sets : List NamedSet) (elsewhere present past : Bool)
      → elsewhere ≡ option_map_or (λ (o : StoredObject). not (o.class == number)) (find (is_named name) s.objects) false
      → present ≡ option_map_or (is_present_at now) (find (is_named name) s.objects) false
      → past ≡ (is_none (find (is_named name) s.objects) && nat_le k.capacity (length (ids_in s.objects number)))
      → fault_of_insert (Some k) elsewhere present past place sets ≡ insert_fault (catalog_of s) (is_some (state_of s name now)) class name place sets
  judged_insert name now place sets elsewhere present past e p c = λ i.
      fault_of_insert (sym has.found i) ((e ∙ sym (elsewhere_found name)) i) ((p ∙ sym (present_found s name now)) i) ((c ∙ sym (past_found name)) i) place sets

-- ---- an update

module _ (s : Contents) (name : List ℕ) (o : StoredObject) (k : ClassInfo) (found : find (is_named name) s.objects ≡ Some o) (there : slice_get s.classes o.class ≡ Some k) where
  pub class_of_object_is : class_of_object (catalog_of s) name ≡ Some k
  class_of_object_is =
      ap (option_and_then (λ (i : ObjectInfo). slice_get s.classes i.class)) (info_found s name ∙ ap (option_map object_info) found) ∙ there

  pub attributes_are_own : attributes_of_object (catalog_of s) (object_of (catalog_of s) name) ≡ k.attributes
  attributes_are_own =
      ap (attributes_of_object (catalog_of s)) (info_found s name ∙ ap (option_map object_info) found)
      ∙ ap attributes_of_class there

  -- the fault of an update
  pub judged_update : (now : ℕ) (place : Place) (sets : List NamedSet) → fault_of_update (Some k) (is_some (state_at o.epochs now)) place sets ≡ update_fault (catalog_of s) (is_some (state_of s name now)) name place sets
  judged_update now place sets = λ i. fault_of_update (sym class_of_object_is i) (is_some (sym (state_of_found s name o now found) i)) place sets
