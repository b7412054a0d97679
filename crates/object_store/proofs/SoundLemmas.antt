-- The contents of a store stay sound.
use Rattle.std.proofs.Common.{◌≡◌, ℕ, zero, suc, ◌+◌, ◌-◌, ◌<◌, ◌≤◌, ◌==◌, Bool, true, false, cond, Option, None, Some, List, [], ◌∷◌, ◌++◌, map, length, get_or, refl, sym, ap, subst, ◌∙◌, inl, inr, arith, if◌then◌else◌, length-append}
use Rattle.std.specs.Prelude.{All, slice_get, option_and_then, option_map, is_some}
use Rattle.std.specs.List.{find, list_any, position, IsDistinct}
use Rattle.std.specs.Option.{ForSome, option_map_or}
use Rattle.std.specs.Str.{bytes_eq}
use Rattle.std.specs.Cmp.Lexicographic.{nat_list_eq_equiv}
use Rattle.std.proofs.lemmas.Bool.{cases_lt}
use Rattle.std.proofs.lemmas.List.{map-append, length-map}
use Rattle.std.proofs.lemmas.List.Elements.{All-push}
use Rattle.std.proofs.lemmas.Map.Keys.{IsDistinct-push, apart_from_distinct}
use Rattle.std.proofs.lemmas.Option.{same_Some, none-some, slice_get-get_or, slice_get_past, slice_get_within}
use Rattle.motion.specs.Timeline.{Epoch, put, AreBegunBy}
use Rattle.motion.proofs.CallerLemmas.{AreBegunBy-put, AreBegunBy-later}
use Rattle.history.specs.Write.{Attribute}
use Rattle.history.specs.Catalog.{ClassInfo, ObjectInfo}
use Rattle.tick_set.specs.declared.spans.TheConstants.{LAST_TICK}
use Rattle.object_store.specs.Contents.{StoredObject, Contents, attributes_of_number, is_named, ids_in}
use Rattle.object_store.specs.Effects.{put_named}
use Rattle.object_store.specs.Sound.{AreClasses, AreObjects, AreEpochsOf, IsSound}
use Rattle.object_store.proofs.Lists.{list_any-map, any_is_found}
use Rattle.object_store.proofs.ClassLemmas.{name_of}
use Rattle.object_store.proofs.IdLemmas.{class_in, ids-append, ids-same, ids-none}
use Rattle.object_store.proofs.KindLemmas.{FitsIn, put_fits}
use Rattle.exact.proofs.Naturals.{same_from_equal}
use Rattle.exact.proofs.Items.{slice_get-append}

abbrev with_epoch : Epoch → StoredObject → StoredObject
with_epoch p o = record o { epochs = put o.epochs p }

abbrev name_in : StoredObject → List ℕ
name_in o = o.name

-- ---- an epoch of a named object

all_cons : {X : Type 0} (P : X → Type 0) (x : X) (xs : List X) → P x → All P xs → All P (x ∷ xs)
all_cons P x xs head tail zero d l = head
all_cons P x xs head tail (suc k) d l = tail k d (omega arith)

put_step : (P Q : StoredObject → Type 0) (b : Bool) (p : Epoch) (x o : StoredObject) (xs ys : List StoredObject) (rest : Option StoredObject) → cond b (Some x) rest ≡ Some o → P x → (P o → Q (with_epoch p o)) → ((x : StoredObject) → P x → Q x) → All Q xs → (rest ≡ Some o → All Q ys) → All Q (if b then (with_epoch p x ∷ xs) else (x ∷ ys))
put_step P Q true p x o xs ys rest found here wrote kept tail later =
    all_cons Q (with_epoch p x) xs (let same : x ≡ o = same_Some x o found in subst (λ (x : StoredObject). Q (with_epoch p x)) (sym same) (wrote (subst P same here))) tail
put_step P Q false p x o xs ys rest found here wrote kept tail later = all_cons Q x ys (kept x here) (later found)

-- what holds of each object, where the named one has one more epoch
All-put_named : (P Q : StoredObject → Type 0) (name : List ℕ) (p : Epoch) (o : StoredObject) (objects : List StoredObject) → find (is_named name) objects ≡ Some o → (P o → Q (with_epoch p o)) → ((x : StoredObject) → P x → Q x) → All P objects → All Q (put_named name p objects)
All-put_named P Q name p o [] found wrote kept all = absurd (none-some o found)
All-put_named P Q name p o (x ∷ xs) found wrote kept all =
    put_step P Q (bytes_eq name x.name) p x o xs (put_named name p xs) (find (is_named name) xs) found (all 0 x (omega arith)) wrote kept
    (λ k d l. kept (get_or xs k d) (all (suc k) d (omega arith)))
    (λ later. All-put_named P Q name p o xs later wrote kept (λ k d l. all (suc k) d (omega arith)))

map_step : {Y : Type 0} (f : StoredObject → Y) (b : Bool) (p : Epoch) (x : StoredObject) (xs ys : List StoredObject) → f (with_epoch p x) ≡ f x → map f ys ≡ map f xs → map f (if b then (with_epoch p x ∷ xs) else (x ∷ ys)) ≡ f x ∷ map f xs
map_step f true p x xs ys same rest = ap (λ y. y ∷ map f xs) same
map_step f false p x xs ys same rest = ap (λ r. f x ∷ r) rest

pub names-put_named : (name : List ℕ) (p : Epoch) (objects : List StoredObject) → map name_in (put_named name p objects) ≡ map name_in objects
names-put_named name p [] = refl
names-put_named name p (x ∷ xs) = map_step name_in (bytes_eq name x.name) p x xs (put_named name p xs) refl (names-put_named name p xs)

pub classes-put_named : (name : List ℕ) (p : Epoch) (objects : List StoredObject) → map class_in (put_named name p objects) ≡ map class_in objects
classes-put_named name p [] = refl
classes-put_named name p (x ∷ xs) = map_step class_in (bytes_eq name x.name) p x xs (put_named name p xs) refl (classes-put_named name p xs)

pub put_sound : (classes : List ClassInfo) (objects : List StoredObject) (last now : ℕ) (name : List ℕ) (p : Epoch) (o : StoredObject) → AreObjects classes objects last → last ≤ now → p.from ≡ now → find (is_named name) objects ≡ Some o → FitsIn (attributes_of_number classes o.class) p.cells → AreObjects classes (put_named name p objects) now
put_sound classes objects last now name p o are later from found fits = record {
  names = subst (IsDistinct bytes_eq) (sym (names-put_named name p objects)) are.names;
  classed =
      let P : StoredObject → Type 0 = λ o. o.class < length classes in
      All-put_named P P name p o objects found (λ h. h) (λ x h. h) are.classed;
  fitted =
      let P : StoredObject → Type 0 = λ o. AreEpochsOf (attributes_of_number classes o.class) o.epochs in
      All-put_named P P name p o objects found (λ h. put_fits (attributes_of_number classes o.class) o.epochs p h fits) (λ x h. h) are.fitted;
  begun =
      let P : StoredObject → Type 0 = λ o. AreBegunBy o.epochs last in
      let Q : StoredObject → Type 0 = λ o. AreBegunBy o.epochs now in
      All-put_named P Q name p o objects found (λ h. subst (AreBegunBy (put o.epochs p)) from (AreBegunBy-put o.epochs p))
      (λ x h. AreBegunBy-later x.epochs last now later h) are.begun;
  within = λ number k at. subst (λ ids. length ids ≤ k.capacity) (sym (ids-same number (put_named name p objects) objects (classes-put_named name p objects))) (are.within number k at);
}

-- ---- a new object

one_fits : (attributes : List Attribute) (p : Epoch) → FitsIn attributes p.cells → AreEpochsOf attributes (put [] p)
one_fits attributes p fits = put_fits attributes [] p (λ k d l. absurd (omega arith)) fits

count_step : (b : Bool) (ids : List ℕ) (n capacity other : ℕ) → length ids ≤ other → (b ≡ true → length ids < other) → length (ids ++ cond b (n ∷ []) []) ≤ other
count_step true ids n capacity other old room = let r : length ids < other = room refl in omega (arith, length-append ids (n ∷ []))
count_step false ids n capacity other old room = omega (arith, length-append ids [])

pub append_sound : (classes : List ClassInfo) (objects : List StoredObject) (last now number : ℕ) (k : ClassInfo) (name : List ℕ) (p : Epoch) → AreObjects classes objects last → last ≤ now → p.from ≡ now → find (is_named name) objects ≡ None → slice_get classes number ≡ Some k → length (ids_in objects number) < k.capacity → FitsIn k.attributes p.cells
    → AreObjects classes (objects ++ record { name = name; class = number; epochs = put [] p } ∷ []) now
append_sound classes objects last now number k name p are later from new at room fits =
    let o : StoredObject = record { name = name; class = number; epochs = put [] p } in
    let named : attributes_of_number classes number ≡ k.attributes = ap (λ r. option_map_or (λ (k : ClassInfo). k.attributes) r []) at in
    record {
      names =
          subst (IsDistinct bytes_eq) (sym (map-append name_in objects (o ∷ [])))
          (IsDistinct-push nat_list_eq_equiv (map name_in objects) name are.names
          (list_any-map (bytes_eq name) name_in objects ∙ any_is_found (is_named name) objects new));
      classed = All-push (λ (o : StoredObject). o.class < length classes) objects o are.classed (slice_get_within classes number k at);
      fitted =
          All-push (λ (o : StoredObject). AreEpochsOf (attributes_of_number classes o.class) o.epochs) objects o are.fitted
          (subst (λ attributes. AreEpochsOf attributes (put [] p)) (sym named) (one_fits k.attributes p fits));
      begun =
          All-push (λ (o : StoredObject). AreBegunBy o.epochs now) objects o
          (λ j d l. AreBegunBy-later (get_or objects j d).epochs last now later (are.begun j d l))
          (subst (AreBegunBy (put [] p)) from (AreBegunBy-put [] p));
      within = λ n j there.
          subst (λ ids. length ids ≤ j.capacity) (sym (ids-append objects o n))
          (count_step (number == n) (ids_in objects n) (length objects) j.capacity j.capacity (are.within n j there)
          (λ h.
          let same : number ≡ n = same_from_equal number n h in
          let one : k ≡ j = same_Some k j (sym at ∙ ap (slice_get classes) same ∙ there) in
          subst (λ (j : ClassInfo). length (ids_in objects n) < j.capacity) one (subst (λ m. length (ids_in objects m) < k.capacity) same room)));
    }

-- ---- a new class

attributes_stay : (classes : List ClassInfo) (k : ClassInfo) (n : ℕ) → n < length classes → attributes_of_number (classes ++ k ∷ []) n ≡ attributes_of_number classes n
attributes_stay classes k n within = ap (λ r. option_map_or (λ (k : ClassInfo). k.attributes) r []) (slice_get-append classes (k ∷ []) n within)

pub class_sound : (classes : List ClassInfo) (k : ClassInfo) (objects : List StoredObject) (last : ℕ) → AreObjects classes objects last → AreObjects (classes ++ k ∷ []) objects last
class_sound classes k objects last are = record {
  names = are.names;
  classed = λ j d l. omega (arith, length-append classes (k ∷ []), are.classed j d l);
  fitted = λ j d l.
      subst (λ attributes. AreEpochsOf attributes (get_or objects j d).epochs) (sym (attributes_stay classes k (get_or objects j d).class (are.classed j d l))) (are.fitted j d l);
  begun = are.begun;
  within = λ n i there.
      elim (cases_lt n (length classes)) [
        | inl old ↦ are.within n i (sym (slice_get-append classes (k ∷ []) n old) ∙ there)
        | inr new ↦
            let none : ids_in objects n ≡ [] = ids-none n objects (λ j d l. omega (arith, are.classed j d l)) in
            rw none (omega arith)
      ];
}
