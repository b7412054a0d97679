-- For this crate and for the crates above: what refuses a `nearest` and what answers it, by the numbers of its object and
-- its class.
use Rattle.std.proofs.Common.{◌≡◌, ℕ, ◌+◌, Bool, true, false, ◌||◌, is_none, Option, None, Some, List, [], ◌∷◌, map, refl, sym, ap, ◌∙◌}
use Rattle.std.specs.Prelude.{option_and_then, option_map, slice_get}
use Rattle.std.specs.List.{position}
use Rattle.std.specs.Option.{option_map_or}
use Rattle.std.specs.Str.{bytes_eq}
use Rattle.std.proofs.lemmas.Option.{slice_get-map}
use Rattle.exact.specs.First.{first_that_holds}
use Rattle.history.specs.Catalog.{ClassInfo, ObjectInfo, class_of, number_of_class, object_of}
use Rattle.history.specs.World.{World}
use Rattle.nearness.specs.Nearest.{near}
use Rattle.object_store.specs.Contents.{Contents, StoredObject, catalog_of, is_named, object_info}
use Rattle.object_store.specs.Faults.{class_of_object}
use Rattle.object_store.proofs.Lists.{find_is, position-map}
use Rattle.command_text.specs.declared.refusal.Refusal.{Refusal}
use Rattle.command_text.specs.declared.refusal.Refusal.TheVariants as refusals
use Rattle.line_meaning.specs.Near.{is_near_crowded, is_near_past, is_near_placeless, is_near_unknown, near_refusal, number_of_object, rows_near}
use Rattle.database.specs.Near.{refusal_of_found}

pub none_of : (o : Option Refusal) → ((r : Refusal) → o ≡ Some r → ⊥) → o ≡ None
none_of None other = refl
none_of (Some r) other = absurd (other r refl)

-- an object has its number in the store
pub stored_number : (s : Contents) (name : List ℕ) → number_of_object (catalog_of s) name ≡ position (is_named name) s.objects
stored_number s name = position-map (λ (o : ObjectInfo). bytes_eq name o.name) object_info s.objects

pub unknown_object : (s : Contents) (object class : List ℕ) → position (is_named object) s.objects ≡ None →
    is_near_unknown (catalog_of s) object class ≡ true
unknown_object s object class none =
    ap (λ (o : Option ℕ). is_none o || is_none (number_of_class (catalog_of s) class)) (stored_number s object ∙ none)

module _ (s : Contents) (object class : List ℕ) (to number : ℕ)
    (is_to : number_of_object (catalog_of s) object ≡ Some to) (is_number : number_of_class (catalog_of s) class ≡ Some number) where
  -- the class of an object, as the store and as the catalog has it
  abbrev pub own : Option ClassInfo
  own = option_and_then (λ (o : StoredObject). slice_get s.classes o.class) (slice_get s.objects to)

  by_info : (o : Option StoredObject) → option_and_then (λ (o : StoredObject). slice_get s.classes o.class) o
      ≡ option_and_then (λ (i : ObjectInfo). slice_get s.classes i.class) (option_map object_info o)
  by_info None = refl
  by_info (Some o) = refl

  named : slice_get (map object_info s.objects) to ≡ object_of (catalog_of s) object
  named = sym (find_is (λ (o : ObjectInfo). bytes_eq object o.name) (map object_info s.objects)
      ∙ ap (option_and_then (slice_get (map object_info s.objects))) is_to)

  own_is : own ≡ class_of_object (catalog_of s) object
  own_is = by_info (slice_get s.objects to)
      ∙ ap (option_and_then (λ (i : ObjectInfo). slice_get s.classes i.class)) (sym (slice_get-map object_info s.objects to) ∙ named)

  among_is : slice_get s.classes number ≡ class_of (catalog_of s) class
  among_is = sym (find_is (λ (k : ClassInfo). bytes_eq class k.name) s.classes ∙ ap (option_and_then (slice_get s.classes)) is_number)

  known : is_near_unknown (catalog_of s) object class ≡ false
  known = λ i. is_none (is_to i) || is_none (is_number i)

  pub found_refusal : (now span : ℕ) → refusal_of_found own (slice_get s.classes number) now span ≡ near_refusal (catalog_of s) now span object class
  found_refusal now span =
      (λ i. refusal_of_found (own_is i) (among_is i) now span)
      ∙ sym (ap (λ (unknown : Bool). first_that_holds (
      (refusals.UnknownName, unknown)
      ∷ (refusals.WrongKind, is_near_placeless (catalog_of s) object class)
      ∷ (refusals.SpanRange, is_near_past now span)
      ∷ (refusals.BindingLimit, is_near_crowded (catalog_of s) class)
      ∷ [])) known)

  pub found_rows : (w : World) (now span k : ℕ) → w.history.catalog ≡ catalog_of s →
      rows_near w now span k object class ≡ near w.history number to k now (now + span)
  found_rows w now span k same = λ i.
      option_map_or (λ (o : ℕ). option_map_or (λ (n : ℕ). near w.history n o k now (now + span)) ((ap (λ c. number_of_class c class) same ∙ is_number) i) [])
      ((ap (λ c. number_of_object c object) same ∙ is_to) i) []
