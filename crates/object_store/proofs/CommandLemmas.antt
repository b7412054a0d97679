-- Commands, by what the code looks up.
use Rattle.std.proofs.Common.{◌≡◌, ℕ, zero, suc, ◌+◌, ◌<◌, ◌==◌, Bool, true, false, ◌&&◌, ◌||◌, not, Option, None, Some, List, [], ◌∷◌, ◌++◌, length, refl, sym, ap, subst, ◌∙◌, arith, if◌then◌else◌}
use Rattle.std.specs.Prelude.{All, IsSome, IsSomeAnd, slice_get, option_and_then, option_map, is_some, is_none, nat_le, unwrap_or}
use Rattle.std.specs.List.{find, list_any, position, cons_option}
use Rattle.std.specs.Option.{option_map_or, option_copied}
use Rattle.std.specs.Str.{bytes_eq}
use Rattle.std.proofs.lemmas.Bool.Decides.{nat_tests}
use Rattle.std.proofs.lemmas.Option.{none-some}
use Rattle.std.specs.Borrow.{Bor}
use Rattle.std.proofs.lemmas.List.Elements.{All-append}
use Rattle.exact.specs.First.{first_that_holds}
use Rattle.exact.proofs.Naturals.{above_from_test}
use Rattle.motion.specs.Cells.{AreChanges, IsGiven, changed, place_sets}
use Rattle.motion.proofs.CallerLemmas.{place_sets-given}
use Rattle.motion.specs.declared.cell.Cell.{Cell}
use Rattle.motion.specs.declared.cell.Given.{Given}
use Rattle.motion.specs.declared.cell.NamedSet.{NamedSet}
use Rattle.motion.specs.declared.cell.Place.{Place}
use Rattle.motion.specs.Timeline.{Epoch, state_at}
use Rattle.history.specs.Write.{Attribute, Insert}
use Rattle.history.specs.Catalog.{ClassInfo, ObjectInfo, class_of, object_of, attributes_of_class}
use Rattle.history.specs.State.{inserted, updated}
use Rattle.object_store.specs.declared.fault.StoreFault.{StoreFault}
use Rattle.object_store.specs.declared.fault.StoreFault.TheVariants as faults
use Rattle.object_store.specs.Changes.{setting_changes, fresh_cells, AreGiven}
use Rattle.object_store.specs.Contents.{StoredObject, Contents, object_info, attributes_of_number, catalog_of, is_named, state_of, ids_in}
use Rattle.object_store.specs.Effects.{number_or_first, with_epoch_of, with_object, after_insert}
use Rattle.object_store.specs.Faults.{is_elsewhere, is_past_capacity, is_misplaced, has_misfit, has_unknown, repeats_set, insert_fault, update_fault, remove_fault, fault_of_insert, fault_of_update}
use Rattle.object_store.specs.Invariant.{HasFreeName}
use Rattle.object_store.specs.Sound.{AreCellsOf}
use Rattle.object_store.proofs.Lists.{find_is, is_some-find}
use Rattle.object_store.proofs.CellLemmas.{changed-cells, changed-inserted}
use Rattle.object_store.proofs.JudgeLemmas.{HasClass, info_found, state_of_found, elsewhere_found, past_found, number_is, attributes_are}
use Rattle.object_store.proofs.KindLemmas.{AreCellsOf-inserted}
use Rattle.object_store.specs.StandsFor.{GrowsBy}
use Rattle.object_store.proofs.StandLemmas.{grows, follows_insert}
use Rattle.object_store.proofs.WriteLemmas.{exists_at}

-- a class that was looked up by its number
pub class_there : (r : Option (Bor ClassInfo)) (k : Bor ClassInfo) (classes : List ClassInfo) (number : ℕ) → option_copied r ≡ slice_get classes number → r ≡ Some k → slice_get classes number ≡ Some k.now
class_there r k classes number copied is = sym copied ∙ ap option_copied is

pub has_class : (classes : List ClassInfo) (class : List ℕ) (number : ℕ) (k : ClassInfo) → position (λ (j : ClassInfo). bytes_eq class j.name) classes ≡ Some number → slice_get classes number ≡ Some k → HasClass classes class number k
has_class classes class number k first there = record {
  first = first;
  found = find_is (λ (j : ClassInfo). bytes_eq class j.name) classes ∙ ap (option_and_then (slice_get classes)) first ∙ there;
  there = there;
}

-- ---- what is given

all_cons : {X : Type 0} (P : X → Type 0) (x : X) (xs : List X) → P x → All P xs → All P (x ∷ xs)
all_cons P x xs head tail zero d l = head
all_cons P x xs head tail (suc k) d l = tail k d (omega arith)

given_step : (r : Option ℕ) (given : Given) (rest : List (ℕ × Given)) → IsGiven given → AreChanges rest → AreChanges (cons_option (option_map (λ index. (index, given)) r) rest)
given_step None given rest head tail = tail
given_step (Some index) given rest head tail = all_cons (λ (change : ℕ × Given). IsGiven change.1) (index, given) rest head tail

pub given_changes : (attributes : List Attribute) (sets : List NamedSet) → All (λ (s : NamedSet). IsGiven s.given) sets → AreChanges (setting_changes attributes sets)
given_changes attributes [] given = λ k d l. absurd (omega arith)
given_changes attributes (s ∷ sets) given =
    given_step (position (λ (a : Attribute). bytes_eq s.name a.name) attributes) s.given (setting_changes attributes sets) (given 0 s (omega arith))
    (given_changes attributes sets (λ k d l. given (suc k) d (omega arith)))

-- all that a command gives is within the limit
pub given_all : (place : Place) (sets : List NamedSet) → AreGiven place sets → All (λ (s : NamedSet). IsGiven s.given) (place_sets place ++ sets)
given_all place sets given = All-append (λ (s : NamedSet). IsGiven s.given) (place_sets place) sets (place_sets-given place given.at) given.settings

-- ---- an insert

pub cells_inserted : (now : ℕ) (attributes : List Attribute) (place : Place) (sets : List NamedSet) (changes : List (ℕ × Given)) (cells : List Cell) → cells ≡ changed now changes (fresh_cells now attributes) → changes ≡ setting_changes attributes (place_sets place ++ sets) → cells ≡ inserted now attributes place sets
cells_inserted now attributes place sets changes cells made are =
    made ∙ ap (λ cs. changed now cs (fresh_cells now attributes)) are ∙ changed-inserted now attributes place sets

pub inserted_fits : (classes : List ClassInfo) (class : List ℕ) (number : ℕ) (k : ClassInfo) (now : ℕ) (place : Place) (sets : List NamedSet) (cells : List Cell) → HasClass classes class number k → cells ≡ inserted now k.attributes place sets → AreCellsOf (attributes_of_number classes number) cells
inserted_fits classes class number k now place sets cells has is =
    subst (AreCellsOf (attributes_of_number classes number)) (sym is)
    (subst (λ attributes. AreCellsOf attributes (inserted now k.attributes place sets)) (sym (attributes_are classes class number k has)) (AreCellsOf-inserted now k.attributes place sets))

first_passes : (b : Bool) (f : StoreFault) (conditions : List (StoreFault × Bool)) → first_that_holds ((f, b) ∷ conditions) ≡ None → (b ≡ false) × (first_that_holds conditions ≡ None)
first_passes true f conditions none = absurd (none-some f (sym none))
first_passes false f conditions none = (refl, none)

left_false : (a b : Bool) → (a || b) ≡ false → a ≡ false
left_false false b h = refl
left_false true b h = cc

-- what is known of an insert without a fault
pub record Passes (elsewhere past : Bool) : Type 0 where
  pub own_class : elsewhere ≡ false
  pub room : past ≡ false

insert_passes : (k : Option ClassInfo) (elsewhere present past : Bool) (place : Place) (sets : List NamedSet) → fault_of_insert k elsewhere present past place sets ≡ None → Passes elsewhere past
insert_passes k elsewhere present past place sets none =
    let last : List (StoreFault × Bool) = (faults.ClassFull, past) ∷ [] in
    let fourth : List (StoreFault × Bool) = (faults.Presence, present) ∷ last in
    let third : List (StoreFault × Bool) = (faults.WrongKind, is_misplaced k place || has_misfit (attributes_of_class k) sets) ∷ fourth in
    let second : List (StoreFault × Bool) = (faults.NameTaken, elsewhere || repeats_set place sets) ∷ third in
    let known = first_passes (is_none k || has_unknown (attributes_of_class k) sets) faults.UnknownName second none in
    let untaken = first_passes (elsewhere || repeats_set place sets) faults.NameTaken third known.1 in
    let fitting = first_passes (is_misplaced k place || has_misfit (attributes_of_class k) sets) faults.WrongKind fourth untaken.1 in
    let absent = first_passes present faults.Presence last fitting.1 in
    let room = first_passes past faults.ClassFull [] absent.1 in
    record { own_class = left_false elsewhere (repeats_set place sets) untaken.0; room = room.0 }

same_of_not : (m n : ℕ) → not (m == n) ≡ false → m ≡ n
same_of_not m n h = grind (arith, nat_tests)

module _ (s : Contents) (class : List ℕ) (number : ℕ) (k : ClassInfo) (has : HasClass s.classes class number k) (name : List ℕ) (now : ℕ) (place : Place) (sets : List NamedSet)
    (accepted : insert_fault (catalog_of s) (is_some (state_of s name now)) class name place sets ≡ None) where
  passes : Passes (is_elsewhere (catalog_of s) class name) (is_past_capacity (catalog_of s) class name)
  passes = insert_passes (class_of (catalog_of s) class) (is_elsewhere (catalog_of s) class name) (is_some (state_of s name now)) (is_past_capacity (catalog_of s) class name) place sets accepted

  -- a known name is of the class
  pub own_class_of : (o : StoredObject) → find (is_named name) s.objects ≡ Some o → o.class ≡ number
  own_class_of o found =
      same_of_not o.class number
      (ap (λ r. option_map_or (λ (o : StoredObject). not (o.class == number)) r false) (sym found) ∙ sym (elsewhere_found s class number k has name) ∙ passes.own_class)

  -- the class has room for a new one
  pub room_for_new : find (is_named name) s.objects ≡ None → HasFreeName s number
  room_for_new new =
      subst (λ r. IsSomeAnd r (λ k. length (ids_in s.objects number) < k.capacity)) (sym has.there)
      (above_from_test k.capacity (length (ids_in s.objects number))
      (ap (λ r. is_none r && nat_le k.capacity (length (ids_in s.objects number))) (sym new) ∙ sym (past_found s class number k has name) ∙ passes.room))

module _ (s : Contents) (class : List ℕ) (number : ℕ) (k : ClassInfo) (has : HasClass s.classes class number k) (name : List ℕ) (now : ℕ) (place : Place) (sets : List NamedSet) (cells : List Cell) (is : cells ≡ inserted now k.attributes place sets) where
  cells_are : inserted now (attributes_of_class (class_of (catalog_of s) class)) place sets ≡ cells
  cells_are = ap (λ r. inserted now (attributes_of_class r) place sets) has.found ∙ sym is

  pub after_known : (o : StoredObject) → find (is_named name) s.objects ≡ Some o → after_insert s now class name place sets ≡ with_epoch_of s name (record { from = now; cells = Some cells })
  after_known o found =
      let p : List Cell → Epoch = λ cs. record { from = now; cells = Some cs } in
      let there : list_any (is_named name) s.objects ≡ true = sym (is_some-find (is_named name) s.objects) ∙ ap is_some found in
      ap (λ b. if b then with_epoch_of s name (p (inserted now (attributes_of_class (class_of (catalog_of s) class)) place sets)) else with_object s (number_or_first s.classes class) name (p (inserted now (attributes_of_class (class_of (catalog_of s) class)) place sets))) there
      ∙ ap (λ cs. with_epoch_of s name (p cs)) cells_are

  pub after_new : find (is_named name) s.objects ≡ None → after_insert s now class name place sets ≡ with_object s number name (record { from = now; cells = Some cells })
  after_new new =
      let p : List Cell → Epoch = λ cs. record { from = now; cells = Some cs } in
      let there : list_any (is_named name) s.objects ≡ false = sym (is_some-find (is_named name) s.objects) ∙ ap is_some new in
      ap (λ b. if b then with_epoch_of s name (p (inserted now (attributes_of_class (class_of (catalog_of s) class)) place sets)) else with_object s (number_or_first s.classes class) name (p (inserted now (attributes_of_class (class_of (catalog_of s) class)) place sets))) there
      ∙ ap (λ cs. with_object s (number_or_first s.classes class) name (p cs)) cells_are
      ∙ ap (λ n. with_object s n name (p cells)) (number_is s.classes class number k has)

-- ---- an update

pub changed_updated : (now : ℕ) (attributes : List Attribute) (place : Place) (sets : List NamedSet) (before : Option (List Cell)) → option_map (changed now (setting_changes attributes (place_sets place ++ sets))) before ≡ option_map (updated now attributes place sets) before
changed_updated now attributes place sets None = refl
changed_updated now attributes place sets (Some cells) = ap Some (changed-cells now attributes (place_sets place ++ sets) cells)

-- ---- a name that was looked up

pub found_there : (name : List ℕ) (objects : List StoredObject) (index : ℕ) (o : StoredObject) → position (is_named name) objects ≡ Some index → slice_get objects index ≡ Some o → find (is_named name) objects ≡ Some o
found_there name objects index o first there = find_is (is_named name) objects ∙ ap (option_and_then (slice_get objects)) first ∙ there

pub found_nowhere : (name : List ℕ) (objects : List StoredObject) → position (is_named name) objects ≡ None → find (is_named name) objects ≡ None
found_nowhere name objects none = find_is (is_named name) objects ∙ ap (option_and_then (slice_get objects)) none

-- ---- a class that is there

some_of_copied : (r : Option (Bor ClassInfo)) (k : ClassInfo) → option_copied r ≡ Some k → IsSome r
some_of_copied None k is = absurd (none-some k is)
some_of_copied (Some x) k is = refl

pub class_known : (r : Option (Bor ClassInfo)) (classes : List ClassInfo) (number : ℕ) → option_copied r ≡ slice_get classes number → number < length classes → IsSome r
class_known r classes number copied within =
    let k = exists_at classes number within in
    some_of_copied r k.0 (copied ∙ k.1)

-- ---- names that aren't known

pub insert_unknown : (s : Contents) (class name : List ℕ) (present : Bool) (place : Place) (sets : List NamedSet) → position (λ (j : ClassInfo). bytes_eq class j.name) s.classes ≡ None → insert_fault (catalog_of s) present class name place sets ≡ Some faults.UnknownName
insert_unknown s class name present place sets none =
    let nowhere : class_of (catalog_of s) class ≡ None = find_is (λ (j : ClassInfo). bytes_eq class j.name) s.classes ∙ ap (option_and_then (slice_get s.classes)) none in
    ap (λ k. fault_of_insert k (is_elsewhere (catalog_of s) class name) present (is_past_capacity (catalog_of s) class name) place sets) nowhere

unknown_object : (s : Contents) (name : List ℕ) → position (is_named name) s.objects ≡ None → object_of (catalog_of s) name ≡ None
unknown_object s name none = info_found s name ∙ ap (option_map object_info) (found_nowhere name s.objects none)

pub update_unknown : (s : Contents) (name : List ℕ) (present : Bool) (place : Place) (sets : List NamedSet) → position (is_named name) s.objects ≡ None → update_fault (catalog_of s) present name place sets ≡ Some faults.UnknownName
update_unknown s name present place sets none =
    ap (λ (o : Option ObjectInfo). fault_of_update (option_and_then (λ (i : ObjectInfo). slice_get s.classes i.class) o) present place sets) (unknown_object s name none)

pub remove_unknown : (s : Contents) (name : List ℕ) (present : Bool) → position (is_named name) s.objects ≡ None → remove_fault (catalog_of s) present name ≡ Some faults.UnknownName
remove_unknown s name present none =
    ap (λ (o : Option ObjectInfo). first_that_holds ((faults.UnknownName, is_none o) ∷ (faults.Presence, not present) ∷ [])) (unknown_object s name none)

-- the fault of a removal of a known object
pub remove_known : (s : Contents) (name : List ℕ) (now : ℕ) (o : StoredObject) (present : Bool) → find (is_named name) s.objects ≡ Some o → present ≡ is_some (state_at o.epochs now) → first_that_holds ((faults.UnknownName, false) ∷ (faults.Presence, not present) ∷ []) ≡ remove_fault (catalog_of s) (is_some (state_of s name now)) name
remove_known s name now o present found is =
    ap (λ b. first_that_holds ((faults.UnknownName, false) ∷ (faults.Presence, not b) ∷ [])) (is ∙ ap is_some (sym (state_of_found s name o now found)))
    ∙ ap (λ (i : Option ObjectInfo). first_that_holds ((faults.UnknownName, is_none i) ∷ (faults.Presence, not (is_some (state_of s name now))) ∷ [])) (sym (info_found s name ∙ ap (option_map object_info) found))

-- ---- standing

-- a class that is found has a number
found_class : (classes : List ClassInfo) (class : List ℕ) (first : Option ℕ) (k : ClassInfo) → position (λ (j : ClassInfo). bytes_eq class j.name) classes ≡ first → find (λ (j : ClassInfo). bytes_eq class j.name) classes ≡ Some k → first ≡ Some (unwrap_or first 0)
found_class classes class None k is found =
    absurd (none-some k (sym (ap (option_and_then (slice_get classes)) is) ∙ sym (find_is (λ (j : ClassInfo). bytes_eq class j.name) classes) ∙ found))
found_class classes class (Some number) k is found = refl

-- an insert without a fault names a class
some_class : (k : Option ClassInfo) (elsewhere present past : Bool) (place : Place) (sets : List NamedSet) → fault_of_insert k elsewhere present past place sets ≡ None → (x : ClassInfo) × (k ≡ Some x)
some_class None elsewhere present past place sets none = absurd (none-some faults.UnknownName (sym none))
some_class (Some k) elsewhere present past place sets none = (k, refl)

pub stands_insert : (s : Contents) (now : ℕ) (class name : List ℕ) (place : Place) (sets : List NamedSet) → insert_fault (catalog_of s) (is_some (state_of s name now)) class name place sets ≡ None → GrowsBy s (after_insert s now class name place sets) (Insert now class name place sets)
stands_insert s now class name place sets accepted =
    let k = some_class (class_of (catalog_of s) class) (is_elsewhere (catalog_of s) class name) (is_some (state_of s name now)) (is_past_capacity (catalog_of s) class name) place sets accepted in
    grows s (after_insert s now class name place sets) (Insert now class name place sets)
    (follows_insert s now class name place sets
    (found_class s.classes class (position (λ (j : ClassInfo). bytes_eq class j.name) s.classes) k.0 refl k.1))

tick_if : (there : Bool) (known new : Contents) (now : ℕ) → known.last_tick ≡ now → new.last_tick ≡ now → (if there then known else new).last_tick ≡ now
tick_if true known new now k n = k
tick_if false known new now k n = n

-- the tick of an insert is the last one
pub tick_of_insert : (s : Contents) (now : ℕ) (class name : List ℕ) (place : Place) (sets : List NamedSet) → (after_insert s now class name place sets).last_tick ≡ now
tick_of_insert s now class name place sets = tick_if (list_any (is_named name) s.objects) _ _ now refl refl
