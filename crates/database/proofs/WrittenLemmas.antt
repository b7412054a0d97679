-- What the three writes make of the objects of the store.
use Rattle.std.proofs.Common.{◌≡◌, ℕ, zero, suc, ◌-◌, ◌==◌, Bool, true, false, Option, None, Some, List, [], ◌∷◌, ◌++◌, length, get_or, refl, sym, ap, subst, ◌∙◌, arith, if◌then◌else◌}
use Rattle.std.specs.Prelude.{nat_lt, slice_get}
use Rattle.std.specs.List.{filter, find, list_any, position}
use Rattle.std.specs.Option.{option_map, option_map_or}
use Rattle.std.specs.Str.{bytes_eq}
use Rattle.std.proofs.lemmas.List.{length-append}
use Rattle.std.proofs.lemmas.List.Quantifiers.{position-Some}
use Rattle.std.proofs.lemmas.Option.{same_Some, slice_get-get_or}
use Rattle.exact.proofs.Lists.{bytes_eq_refl}
use Rattle.exact.proofs.Items.{none_from_test}
use Rattle.exact.proofs.Naturals.{differs_before, not_itself}
use Rattle.motion.specs.Timeline.{Epoch, last_begun, put}
use Rattle.motion.specs.declared.cell.NamedSet.{NamedSet}
use Rattle.motion.specs.declared.cell.Place.{Place}
use Rattle.history.specs.Catalog.{attributes_of_class, class_of, object_of}
use Rattle.history.specs.State.{attributes_of_object, inserted, updated}
use Rattle.object_store.specs.Contents.{Contents, StoredObject, catalog_of, is_named, state_of}
use Rattle.object_store.specs.Effects.{after_insert, after_remove, after_update, number_or_first, put_named, with_epoch_of, with_object}
use Rattle.object_store.proofs.Lists.{index_in, index_is, is_some-find}
use Rattle.object_store.proofs.UndoLemmas.{at_suc, at_zero, first_at, put_there}
use Rattle.object_store.proofs.WriteLemmas.{index-put_named, index_last}
use Rattle.object_store.proofs.ChangeLemmas.{pushed_others}
use Rattle.database.specs.Written.{WritesOneObject}

abbrev with_epoch : Epoch → StoredObject → StoredObject
with_epoch p o = record o { epochs = put o.epochs p }

pushed_at : {X : Type 0} (xs : List X) (x : X) → slice_get (xs ++ x ∷ []) (length xs) ≡ Some x
pushed_at [] x = refl
pushed_at (y ∷ ys) x = pushed_at ys x

begins_last : (earlier : List Epoch) (p : Epoch) → last_begun (earlier ++ p ∷ []) ≡ p.from
begins_last earlier p =
    let place : length (earlier ++ p ∷ []) - 1 ≡ length earlier = omega (arith, length-append earlier (p ∷ [])) in
    ap (λ n. option_map_or (λ (q : Epoch). q.from) (slice_get (earlier ++ p ∷ []) n) 0) place
    ∙ ap (λ (q : Option Epoch). option_map_or (λ q. q.from) q 0) (pushed_at earlier p)

-- ---- an object that was there

put_others : (name : List ℕ) (p : Epoch) (objects : List StoredObject) (index i : ℕ) → index_in (is_named name) objects ≡ Some index →
    (i == index) ≡ false → slice_get (put_named name p objects) i ≡ slice_get objects i
put_others name p [] index i first other = refl
put_others name p (x ∷ xs) zero zero first other = not_itself 0 other
put_others name p (x ∷ xs) zero (suc i) first other =
    ap (λ b. slice_get (if b then (with_epoch p x ∷ xs) else (x ∷ put_named name p xs)) (suc i))
    (at_zero (bytes_eq name x.name) (index_in (is_named name) xs) first)
put_others name p (x ∷ xs) (suc index) zero first other =
    ap (λ b. slice_get (if b then (with_epoch p x ∷ xs) else (x ∷ put_named name p xs)) 0)
    (at_suc (bytes_eq name x.name) (index_in (is_named name) xs) index first).0
put_others name p (x ∷ xs) (suc index) (suc i) first other =
    let later = at_suc (bytes_eq name x.name) (index_in (is_named name) xs) index first in
    ap (λ b. slice_get (if b then (with_epoch p x ∷ xs) else (x ∷ put_named name p xs)) (suc i)) later.0
    ∙ put_others name p xs index i later.1 (differs_before i index other)

known_written : (name : List ℕ) (p : Epoch) (objects : List StoredObject) (id : ℕ) → position (is_named name) (put_named name p objects) ≡ Some id →
    WritesOneObject id p.from objects (put_named name p objects)
known_written name p objects id at =
    let d : StoredObject = record { name = name; class = 0; epochs = [] } in
    let first = sym (index-put_named name p objects) ∙ at in
    let there = slice_get-get_or objects id d (position-Some (is_named name) objects id d first).0 in
    let o : StoredObject = get_or objects id d in
    record {
      begins =
          ap (λ (x : Option StoredObject). option_map_or (λ x. last_begun x.epochs) x 0)
          (put_there name p objects id o (first_at name objects id o first there))
          ∙ begins_last (filter (λ (q : Epoch). nat_lt q.from p.from) o.epochs) p;
      others = λ i other. put_others name p objects id i (sym (index_is (is_named name) objects) ∙ first) other;
    }

-- ---- one of a new name

new_written : (x : StoredObject) (p : Epoch) (objects : List StoredObject) (id : ℕ) → x.epochs ≡ p ∷ [] → find (is_named x.name) objects ≡ None →
    position (is_named x.name) (objects ++ x ∷ []) ≡ Some id → WritesOneObject id p.from objects (objects ++ x ∷ [])
new_written x p objects id epochs new at =
    let last : length objects ≡ id =
    same_Some (length objects) id
    (sym (index_last (is_named x.name) objects x new (bytes_eq_refl x.name)) ∙ sym (index_is (is_named x.name) (objects ++ x ∷ [])) ∙ at) in
    record {
      begins =
          ap (λ n. option_map_or (λ (y : StoredObject). last_begun y.epochs) (slice_get (objects ++ x ∷ []) n) 0) (sym last)
          ∙ ap (λ (y : Option StoredObject). option_map_or (λ y. last_begun y.epochs) y 0) (pushed_at objects x)
          ∙ ap last_begun epochs;
      others = λ i other. pushed_others objects x i (ap (λ n. i == n) last ∙ other);
    }

-- ---- the three writes

written_if : (there : Bool) (name : List ℕ) (class : ℕ) (p : Epoch) (objects : List StoredObject) (id : ℕ) →
    list_any (is_named name) objects ≡ there →
    position (is_named name) (if there then put_named name p objects else (objects ++ record { name = name; class = class; epochs = p ∷ [] } ∷ [])) ≡ Some id →
    WritesOneObject id p.from objects (if there then put_named name p objects else (objects ++ record { name = name; class = class; epochs = p ∷ [] } ∷ []))
written_if true name class p objects id there at = known_written name p objects id at
written_if false name class p objects id there at =
    new_written (record { name = name; class = class; epochs = p ∷ [] }) p objects id refl
    (none_from_test (find (is_named name) objects) (is_some-find (is_named name) objects ∙ there)) at

-- an epoch of the object of a name, by a store that has it
abbrev pub IsEpochOf : (name : List ℕ) (now id : ℕ) (old new : List StoredObject) → Type 0
IsEpochOf name now id old new = position (is_named name) new ≡ Some id → WritesOneObject id now old new

objects_if : (there : Bool) (s : Contents) (name : List ℕ) (class : ℕ) (p : Epoch) →
    (if there then with_epoch_of s name p else with_object s class name p).objects
    ≡ (if there then put_named name p s.objects else (s.objects ++ record { name = name; class = class; epochs = p ∷ [] } ∷ []))
objects_if true s name class p = refl
objects_if false s name class p = refl

pub insert_writes : (s : Contents) (now : ℕ) (class name : List ℕ) (place : Place) (sets : List NamedSet) (id : ℕ) →
    IsEpochOf name now id s.objects (after_insert s now class name place sets).objects
insert_writes s now class name place sets id at =
    let p : Epoch = record { from = now; cells = Some (inserted now (attributes_of_class (class_of (catalog_of s) class)) place sets) } in
    let same = objects_if (list_any (is_named name) s.objects) s name (number_or_first s.classes class) p in
    subst (λ (new : List StoredObject). WritesOneObject id now s.objects new) (sym same)
    (written_if (list_any (is_named name) s.objects) name (number_or_first s.classes class) p s.objects id refl
    (ap (position (is_named name)) (sym same) ∙ at))

pub update_writes : (s : Contents) (now : ℕ) (name : List ℕ) (place : Place) (sets : List NamedSet) (id : ℕ) →
    IsEpochOf name now id s.objects (after_update s now name place sets).objects
update_writes s now name place sets id at =
    let attributes = attributes_of_object (catalog_of s) (object_of (catalog_of s) name) in
    known_written name (record { from = now; cells = option_map (updated now attributes place sets) (state_of s name now) }) s.objects id at

pub remove_writes : (s : Contents) (now : ℕ) (name : List ℕ) (id : ℕ) → IsEpochOf name now id s.objects (after_remove s now name).objects
remove_writes s now name id at = known_written name (record { from = now; cells = None }) s.objects id at

-- as the store answers
pub written_by : (name : List ℕ) (now id : ℕ) (old new after : List StoredObject) → IsEpochOf name now id old after → new ≡ after →
    position (is_named name) new ≡ Some id → WritesOneObject id now old new
written_by name now id old new after writes same at =
    subst (λ (objects : List StoredObject). WritesOneObject id now old objects) (sym same) (writes (ap (position (is_named name)) (sym same) ∙ at))
