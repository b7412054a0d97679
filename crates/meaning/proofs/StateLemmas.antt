-- The states that accepted writes lead to: their sizes, and their kinds by the class of the object.
use Rattle.std.proofs.Common.{◌≡◌, ℕ, zero, suc, ◌+◌, ◌<◌, ◌≤◌, Bool, true, false, ◌&&◌, ◌||◌, Option, None, Some, List, [], ◌∷◌, ◌++◌, length, length-append, map, refl, sym, ap, ◌∙◌, arith, if◌then◌else◌}
use Rattle.std.specs.Prelude.{◌==◌, nat_le, nat_lt, option_and_then, option_map, slice_get}
use Rattle.std.specs.List.{AllByRecursion, IsDistinct, find, fold, list_all, list_any, position_or_len}
use Rattle.std.specs.Option.{option_map_or}
use Rattle.std.specs.Str.{bytes_eq}
use Rattle.std.specs.Cmp.Lexicographic.{nat_list_eq_equiv}
use Rattle.std.proofs.lemmas.Bool.{false≢true, and_from, and_parts, or_parts}
use Rattle.std.proofs.lemmas.Bool.Decides.{nat_tests}
use Rattle.std.proofs.lemmas.List.Folds.{find_at, list_all-append, list_any-append}
use Rattle.std.proofs.lemmas.Map.Keys.{IsDistinct-head, IsDistinct-tail}
use Rattle.exact.proofs.Lists.{bytes_eq_true}
use Rattle.exact.proofs.Naturals.{at_most_from_test}
use Rattle.exact.proofs.Items.{no_value, slice_get-append}
use Rattle.motion.specs.declared.cell.Cell.{Cell}
use Rattle.motion.specs.declared.cell.NamedSet.{NamedSet}
use Rattle.motion.specs.declared.cell.Place.{Place}
use Rattle.motion.specs.Cells.{kind_of}
use Rattle.history.specs.Catalog.{catalog, Catalog, ClassInfo, ObjectInfo, attributes_of_class, catalog_after, class_of, empty_catalog, has_object, number_of_class, object_of, with_coordinates, with_new_object}
use Rattle.history.specs.History.{cells_at, history}
use Rattle.history.specs.State.{SoFar, after_write, attributes_of_object, cells_after_write, inserted, state, updated}
use Rattle.history.proofs.HistoryLemmas.{told_catalog}
use Rattle.history.proofs.LawLemmas.{names_apart}
use Rattle.history.specs.Write.{Attribute, Write, Class, Insert, Remove, Update}
use Rattle.meaning.specs.Accepted.{are_accepted, are_given, is_accepted, is_own_class, tick_after}
use Rattle.meaning.specs.Reachable.{IsReachable, is_reachable}
use Rattle.meaning.proofs.ReachLemmas.{cells_stay, inserted_has_kinds, inserted_is_reachable, updated_is_reachable, updated_keeps_kinds}

-- ---- the sizes

abbrev are_within : ℕ → Option (List Cell) → Bool
are_within n state = option_map_or (list_all (is_reachable n)) state true

within_stays : (s t : ℕ) → s ≤ t → (state : Option (List Cell)) → are_within s state ≡ true → are_within t state ≡ true
within_stays s t upto None is = refl
within_stays s t upto (Some there) is = cells_stay s t upto there is

within_either : (n : ℕ) (here : Bool) (x y : Option (List Cell)) → (here ≡ true → are_within n x ≡ true) → are_within n y ≡ true →
    are_within n (if here then x else y) ≡ true
within_either n true x y first second = first refl
within_either n false x y first second = second

within_updated : (s : ℕ) (attributes : List Attribute) (place : Place) (sets : List NamedSet) (state : Option (List Cell)) → are_given place sets ≡ true →
    are_within s state ≡ true → are_within s (option_map (updated s attributes place sets) state) ≡ true
within_updated s attributes place sets None given is = refl
within_updated s attributes place sets (Some there) given is = updated_is_reachable s attributes place sets there given is

-- by the tick of the last write, and by a tick that is asked
abbrev AreBoth : ℕ → ℕ → Option (List Cell) → Type 0
AreBoth last t state = (are_within last state ≡ true) × (are_within t state ≡ true)

-- a write at tick s of a state that is reachable at s
either_both : (s t : ℕ) (named : Bool) (x y : Option (List Cell)) → are_within s x ≡ true → AreBoth s t y →
    AreBoth s t (if named && nat_le s t then x else y)
either_both s t named x y new old = (
  within_either s (named && nat_le s t) x y (λ here. new) old.0,
  within_either t (named && nat_le s t) x y (λ here. within_stays s t (at_most_from_test s t (and_parts named (nat_le s t) here).1) x new) old.1,
)

sizes_step : (c : Catalog) (o : List ℕ) (last t : ℕ) (state : Option (List Cell)) (w : Write) → is_accepted c last w ≡ true →
    AreBoth last t state → AreBoth (tick_after last w) t (cells_after_write c o t state w)
sizes_step c o last t state (Class name capacity point attributes) accepted is = is
sizes_step c o last t state (Insert s class name place sets) accepted is =
    let parts = and_parts (nat_le last s) (are_given place sets && is_own_class c class name) accepted in
    let given = (and_parts (are_given place sets) (is_own_class c class name) parts.1).0 in
    either_both s t (bytes_eq o name) (Some (inserted s (attributes_of_class (class_of c class)) place sets)) state
    (inserted_is_reachable s (attributes_of_class (class_of c class)) place sets given)
    (within_stays last s (at_most_from_test last s parts.0) state is.0, is.1)
sizes_step c o last t state (Update s name place sets) accepted is =
    let parts = and_parts (nat_le last s) (are_given place sets) accepted in
    let now = within_stays last s (at_most_from_test last s parts.0) state is.0 in
    let attributes = attributes_of_object c (object_of c o) in
    either_both s t (bytes_eq o name) (option_map (updated s attributes place sets) state) state
    (within_updated s attributes place sets state parts.1 now) (now, is.1)
sizes_step c o last t state (Remove s name) accepted is =
    either_both s t (bytes_eq o name) None state refl (within_stays last s (at_most_from_test last s accepted) state is.0, is.1)

-- ---- the kinds

found_first : {A : Type 0} (p q : A → Bool) (y x : A) (xs : List A) (first : Bool) → (if first then Some y else find p xs) ≡ Some x →
    q y ≡ true → (find p xs ≡ Some x → q x ≡ true) → q x ≡ true
found_first p q y x xs true is here later = let same : y ≡ x = cc in ap q (sym same) ∙ here
found_first p q y x xs false is here later = later is

found_passes : {A : Type 0} (p q : A → Bool) (xs : List A) (x : A) → find p xs ≡ Some x → list_all q xs ≡ true → q x ≡ true
found_passes p q [] x is all = no_value x is
found_passes p q (y ∷ xs) x is all =
    let parts = and_parts (q y) (list_all q xs) all in
    found_first p q y x xs (p y) is parts.0 (λ later. found_passes p q xs x later parts.1)

append_step : {A : Type 0} (p : A → Bool) (x : A) (xs : List A) (y : A) (first : Bool) →
    find p (xs ++ y ∷ []) ≡ (if list_any p xs then find p xs else (if p y then Some y else None)) →
    (if first then Some x else find p (xs ++ y ∷ []))
    ≡ (if first || list_any p xs then (if first then Some x else find p xs) else (if p y then Some y else None))
append_step p x xs y true later = refl
append_step p x xs y false later = later

some_step : {A : Type 0} (p : A → Bool) (x : A) (xs : List A) (first : Bool) → (first || list_any p xs) ≡ true →
    (list_any p xs ≡ true → (y : A) × (find p xs ≡ Some y)) → (y : A) × ((if first then Some x else find p xs) ≡ Some y)
some_step p x xs true any later = (x, refl)
some_step p x xs false any later = later any

numbered : (there : Bool) (place m : ℕ) → (if there then Some place else None) ≡ Some m → (place ≡ m) × (there ≡ true)
numbered true place m is = let same : place ≡ m = cc in (same, refl)
numbered false place m is = no_value m is

-- the first that passes, of a list with one more at the end
found_append : {A : Type 0} (p : A → Bool) (xs : List A) (y : A) → find p (xs ++ y ∷ []) ≡ (if list_any p xs then find p xs else (if p y then Some y else None))
found_append p [] y = refl
found_append p (x ∷ xs) y = append_step p x xs y (p x) (found_append p xs y)

found_none : {A : Type 0} (p : A → Bool) (xs : List A) → list_any p xs ≡ false → find p xs ≡ None
found_none p [] none = refl
found_none p (x ∷ xs) none =
    let parts = or_parts (p x) (list_any p xs) none in
    ap (λ b. if b then Some x else find p xs) parts.0 ∙ found_none p xs parts.1

found_some : {A : Type 0} (p : A → Bool) (xs : List A) → list_any p xs ≡ true → (x : A) × (find p xs ≡ Some x)
found_some p [] any = absurd (false≢true any)
found_some p (x ∷ xs) any = some_step p x xs (p x) any (found_some p xs)

any_or_none : {A : Type 0} (p : A → Bool) (xs : List A) (any : Bool) → list_any p xs ≡ any → (if any then find p xs else None) ≡ find p xs
any_or_none p xs true is = refl
any_or_none p xs false is = sym (found_none p xs is)

-- a class by its number, among the classes that there are
class_by_number : (c : Catalog) (class : List ℕ) (m : ℕ) → number_of_class c class ≡ Some m →
    (class_of c class ≡ slice_get c.classes m) × (m < length c.classes)
class_by_number c class m is =
    let place = position_or_len (λ (k : ClassInfo). bytes_eq class k.name) c.classes in
    let at = numbered (nat_lt place (length c.classes)) place m is in (
      find_at (λ (k : ClassInfo). bytes_eq class k.name) c.classes ∙ ap (slice_get c.classes) at.0,
      let there : place < length c.classes = grind (arith, nat_tests, at.1) in omega (arith, there, at.0),
    )

-- the class of the object of a name
abbrev class_named : Catalog → List ℕ → Option ClassInfo
class_named c o = option_and_then (λ (x : ObjectInfo). slice_get c.classes x.class) (object_of c o)

abbrev HasKinds : Option ClassInfo → Option (List Cell) → Type 0
HasKinds class state = (k : ClassInfo) (there : List Cell) → class ≡ Some k → state ≡ Some there → map kind_of there ≡ map (λ (a : Attribute). a.kind) k.attributes

abbrev are_classed : Catalog → Bool
are_classed c = list_all (λ (x : ObjectInfo). nat_lt x.class (length c.classes)) c.objects

record Told (c : Catalog) (o : List ℕ) (state : Option (List Cell)) : Type 0 where
  classed : are_classed c ≡ true
  absent : has_object c o ≡ false → state ≡ None
  kinds : HasKinds (class_named c o) state

no_kinds : (class : Option ClassInfo) (state : Option (List Cell)) → state ≡ None → HasKinds class state
no_kinds class state none k there is at = no_value there (sym none ∙ at)

kinds_either : (class : Option ClassInfo) (here : Bool) (x y : Option (List Cell)) → (here ≡ true → HasKinds class x) → HasKinds class y →
    HasKinds class (if here then x else y)
kinds_either class true x y first second = first refl
kinds_either class false x y first second = second

none_either : (here : Bool) (x y : Option (List Cell)) → (here ≡ true → x ≡ None) → y ≡ None → (if here then x else y) ≡ None
none_either true x y first second = first refl
none_either false x y first second = second

updated_none : (s : ℕ) (attributes : List Attribute) (place : Place) (sets : List NamedSet) (state : Option (List Cell)) → state ≡ None →
    option_map (updated s attributes place sets) state ≡ None
updated_none s attributes place sets state none = ap (option_map (updated s attributes place sets)) none

updated_kinds : (class : Option ClassInfo) (s : ℕ) (attributes : List Attribute) (place : Place) (sets : List NamedSet) (state : Option (List Cell)) → HasKinds class state →
    HasKinds class (option_map (updated s attributes place sets) state)
updated_kinds class s attributes place sets None kinds k there is at = no_value there at
updated_kinds class s attributes place sets (Some before) kinds k there is at =
    let same : updated s attributes place sets before ≡ there = cc in
    ap (map kind_of) (sym same) ∙ updated_keeps_kinds s attributes place sets before ∙ kinds k before is refl

inserted_kinds : (class : Option ClassInfo) (s : ℕ) (place : Place) (sets : List NamedSet) → HasKinds class (Some (inserted s (attributes_of_class class) place sets))
inserted_kinds class s place sets k there is at =
    let same : inserted s (attributes_of_class class) place sets ≡ there = cc in
    ap (map kind_of) (sym same) ∙ inserted_has_kinds s (attributes_of_class class) place sets
    ∙ ap (λ c. map (λ (a : Attribute). a.kind) (attributes_of_class c)) is

-- ---- a new class

more_classed : (objects : List ObjectInfo) (classes : List ClassInfo) (new : ClassInfo) → list_all (λ x. nat_lt x.class (length classes)) objects ≡ true →
    list_all (λ x. nat_lt x.class (length (classes ++ new ∷ []))) objects ≡ true
more_classed [] classes new all = refl
more_classed (x ∷ objects) classes new all =
    let parts = and_parts (nat_lt x.class (length classes)) (list_all (λ y. nat_lt y.class (length classes)) objects) all in
    let longer : length (classes ++ new ∷ []) ≡ length classes + 1 = length-append classes (new ∷ []) in
    let first : nat_lt x.class (length (classes ++ new ∷ [])) ≡ true = grind (arith, nat_tests, parts.0, longer) in
    and_from (nat_lt x.class (length (classes ++ new ∷ []))) (list_all (λ y. nat_lt y.class (length (classes ++ new ∷ []))) objects) first
    (more_classed objects classes new parts.1)

same_class : (classes : List ClassInfo) (new : ClassInfo) (objects : List ObjectInfo) (o : List ℕ) (found : Option ObjectInfo) →
    find (λ x. bytes_eq o x.name) objects ≡ found → list_all (λ x. nat_lt x.class (length classes)) objects ≡ true →
    option_and_then (λ (x : ObjectInfo). slice_get (classes ++ new ∷ []) x.class) found ≡ option_and_then (λ (x : ObjectInfo). slice_get classes x.class) found
same_class classes new objects o None is all = refl
same_class classes new objects o (Some x) is all =
    let below = found_passes (λ (y : ObjectInfo). bytes_eq o y.name) (λ (y : ObjectInfo). nat_lt y.class (length classes)) objects x is all in
    let within : x.class < length classes = grind (arith, nat_tests, below) in
    slice_get-append classes (new ∷ []) x.class within

-- ---- an insert

module _ (c : Catalog) (o class name : List ℕ) (m s t : ℕ) (place : Place) (sets : List NamedSet) (state : Option (List Cell))
    (number : number_of_class c class ≡ Some m) (told : Told c o state) where
  abbrev new_object : ObjectInfo
  new_object = record { name = name; class = m }

  abbrev new_state : Option (List Cell)
  new_state = Some (inserted s (attributes_of_class (class_of c class)) place sets)

  abbrev here : Bool
  here = bytes_eq o name && nat_le s t

  is_name : here ≡ true → o ≡ name
  is_name is = bytes_eq_true o name (and_parts (bytes_eq o name) (nat_le s t) is).0

  -- of an object that is there
  insert_again : has_object c name ≡ true → option_map_or (λ (x : ObjectInfo). m == x.class) (object_of c name) true ≡ true →
      Told c o (if here then new_state else state)
  insert_again there own =
      let found = found_some (λ (x : ObjectInfo). bytes_eq name x.name) c.objects there in
      let same : m ≡ found.0.class =
      let equal : (m == found.0.class) ≡ true = ap (λ (x : Option ObjectInfo). option_map_or (λ (y : ObjectInfo). m == y.class) x true) (sym found.1) ∙ own in
      grind (arith, nat_tests, equal) in
      let its_class : class_named c name ≡ class_of c class =
      ap (option_and_then (λ (x : ObjectInfo). slice_get c.classes x.class)) found.1
      ∙ ap (slice_get c.classes) (sym same)
      ∙ sym (class_by_number c class m number).0 in
      record {
        classed = told.classed;
        absent = λ none. none_either here new_state state
            (λ is. let wrong : true ≡ false = sym there ∙ ap (has_object c) (sym (is_name is)) ∙ none in absurd (false≢true (sym wrong)))
            (told.absent none);
        kinds = kinds_either (class_named c o) here new_state state
            (λ is k cells class_is. inserted_kinds (class_of c class) s place sets k cells (sym its_class ∙ ap (class_named c) (sym (is_name is)) ∙ class_is))
            told.kinds;
      }

  -- of a new object
  abbrev with_new : Catalog
  with_new = with_new_object c (Some m) name

  new_is_found : bytes_eq o name ≡ true → has_object c o ≡ false → class_named with_new o ≡ class_of c class
  new_is_found named none =
      ap (option_and_then (λ (x : ObjectInfo). slice_get c.classes x.class))
      (found_append (λ (x : ObjectInfo). bytes_eq o x.name) c.objects new_object
      ∙ ap (λ b. if b then object_of c o else (if bytes_eq o name then Some new_object else None)) none
      ∙ ap (λ b. if b then Some new_object else None) named)
      ∙ sym (class_by_number c class m number).0

  old_is_found : bytes_eq o name ≡ false → class_named with_new o ≡ class_named c o
  old_is_found other =
      ap (option_and_then (λ (x : ObjectInfo). slice_get c.classes x.class))
      (found_append (λ (x : ObjectInfo). bytes_eq o x.name) c.objects new_object
      ∙ ap (λ b. if has_object c o then object_of c o else (if b then Some new_object else None)) other
      ∙ any_or_none (λ (x : ObjectInfo). bytes_eq o x.name) c.objects (has_object c o) refl)

  new_classed : are_classed with_new ≡ true
  new_classed =
      let below : m < length c.classes = (class_by_number c class m number).1 in
      let last : nat_lt m (length c.classes) ≡ true = grind (arith, nat_tests, below) in
      list_all-append (λ (x : ObjectInfo). nat_lt x.class (length c.classes)) c.objects (new_object ∷ [])
      ∙ and_from (are_classed c) (nat_lt m (length c.classes) && true) told.classed (and_from (nat_lt m (length c.classes)) true last refl)

  neither : has_object with_new o ≡ false → (has_object c o ≡ false) × (bytes_eq o name ≡ false)
  neither none =
      let parts = or_parts (has_object c o) (bytes_eq o name || false) (sym (list_any-append (λ (x : ObjectInfo). bytes_eq o x.name) c.objects (new_object ∷ [])) ∙ none) in
      (parts.0, (or_parts (bytes_eq o name) false parts.1).0)

  -- its writes don't name o
  not_here : {A : Type 0} → bytes_eq o name ≡ false → here ≡ true → A
  not_here other is = absurd (false≢true (sym other ∙ (and_parts (bytes_eq o name) (nat_le s t) is).0))

  insert_new : (named : Bool) → bytes_eq o name ≡ named → has_object c name ≡ false → Told with_new o (if here then new_state else state)
  insert_new true named none =
      let same = bytes_eq_true o name named in
      let not_yet : has_object c o ≡ false = ap (has_object c) same ∙ none in
      record {
        classed = new_classed;
        absent = λ without. absurd (false≢true (sym (neither without).1 ∙ named));
        kinds = kinds_either (class_named with_new o) here new_state state
            (λ is k cells class_is. inserted_kinds (class_of c class) s place sets k cells (sym (new_is_found named not_yet) ∙ class_is))
            (no_kinds (class_named with_new o) state (told.absent not_yet));
      }
  insert_new false named none =
      record {
        classed = new_classed;
        absent = λ without. none_either here new_state state (λ is. not_here named is) (told.absent (neither without).0);
        kinds = kinds_either (class_named with_new o) here new_state state (λ is. not_here named is)
            (λ k cells class_is. told.kinds k cells (sym (old_is_found named) ∙ class_is));
      }

insert_step : (c : Catalog) (o class name : List ℕ) (s t : ℕ) (place : Place) (sets : List NamedSet) (state : Option (List Cell)) → Told c o state →
    (number : Option ℕ) → number_of_class c class ≡ number → (there : Bool) → has_object c name ≡ there →
    option_map_or (λ m. option_map_or (λ (x : ObjectInfo). m == x.class) (object_of c name) true) number false ≡ true →
    Told (if there then c else with_new_object c number name) o
    (if bytes_eq o name && nat_le s t then Some (inserted s (attributes_of_class (class_of c class)) place sets) else state)
insert_step c o class name s t place sets state told None is there has own = absurd (false≢true own)
insert_step c o class name s t place sets state told (Some m) is true has own = insert_again c o class name m s t place sets state is told has own
insert_step c o class name s t place sets state told (Some m) is false has own =
    insert_new c o class name m s t place sets state is told (bytes_eq o name) refl has

kinds_step : (c : Catalog) (o : List ℕ) (last t : ℕ) (state : Option (List Cell)) (w : Write) → is_accepted c last w ≡ true → Told c o state →
    Told (catalog_after c w) o (cells_after_write c o t state w)
kinds_step c o last t state (Class name capacity point attributes) accepted told =
    let new : ClassInfo = record { name = name; capacity = capacity; point = point; attributes = with_coordinates point attributes } in
    record {
      classed = more_classed c.objects c.classes new told.classed;
      absent = told.absent;
      kinds = λ k there class_is. told.kinds k there (sym (same_class c.classes new c.objects o (object_of c o) refl told.classed) ∙ class_is);
    }
kinds_step c o last t state (Insert s class name place sets) accepted told =
    let parts = and_parts (nat_le last s) (are_given place sets && is_own_class c class name) accepted in
    insert_step c o class name s t place sets state told (number_of_class c class) refl (has_object c name) refl
    (and_parts (are_given place sets) (is_own_class c class name) parts.1).1
kinds_step c o last t state (Update s name place sets) accepted told =
    let here = bytes_eq o name && nat_le s t in
    let attributes = attributes_of_object c (object_of c o) in
    record {
      classed = told.classed;
      absent = λ none. none_either here (option_map (updated s attributes place sets) state) state
          (λ is. updated_none s attributes place sets state (told.absent none)) (told.absent none);
      kinds = kinds_either (class_named c o) here (option_map (updated s attributes place sets) state) state
          (λ is. updated_kinds (class_named c o) s attributes place sets state told.kinds) told.kinds;
    }
kinds_step c o last t state (Remove s name) accepted told =
    let here = bytes_eq o name && nat_le s t in
    record {
      classed = told.classed;
      absent = λ none. none_either here None state (λ is. refl) (told.absent none);
      kinds = kinds_either (class_named c o) here None state (λ is. no_kinds (class_named c o) None refl) told.kinds;
    }

-- ---- all writes

record Ends (o : List ℕ) (t : ℕ) (end : SoFar) : Type 0 where
  sizes : are_within t end.cells ≡ true
  told : Told end.catalog o end.cells

all_writes : (o : List ℕ) (t : ℕ) (writes : List Write) (c : Catalog) (last : ℕ) (state : Option (List Cell)) → are_accepted c last writes ≡ true →
    AreBoth last t state → Told c o state → Ends o t (fold (after_write o t) (record { catalog = c; cells = state }) writes)
all_writes o t [] c last state accepted sizes told = record { sizes = sizes.1; told = told }
all_writes o t (w ∷ writes) c last state accepted sizes told =
    let parts = and_parts (is_accepted c last w) (are_accepted (catalog_after c w) (tick_after last w) writes) accepted in
    all_writes o t writes (catalog_after c w) (tick_after last w) (cells_after_write c o t state w) parts.1
    (sizes_step c o last t state w parts.0 sizes) (kinds_step c o last t state w parts.0 told)

sizes_of : (t : ℕ) (state : Option (List Cell)) (there : List Cell) → state ≡ Some there → are_within t state ≡ true → list_all (is_reachable t) there ≡ true
sizes_of t state there is within = ap (are_within t) (sym is) ∙ within

named_is_reachable : (writes : List Write) (o : List ℕ) (t : ℕ) → are_accepted empty_catalog 0 writes ≡ true → (k : ClassInfo) (there : List Cell) →
    class_named (catalog writes) o ≡ Some k → state writes o t ≡ Some there → IsReachable k.attributes t there
named_is_reachable writes o t accepted k there class_is at =
    let start : SoFar = record { catalog = empty_catalog; cells = None } in
    let end = all_writes o t writes empty_catalog 0 None accepted (refl, refl)
    (record { classed = refl; absent = λ none. refl; kinds = no_kinds (class_named empty_catalog o) None refl }) in
    record {
      kinds = end.told.kinds k there (ap (λ c. class_named c o) (told_catalog o t writes start) ∙ class_is) at;
      each = sizes_of t (state writes o t) there at end.sizes;
    }

-- ---- by the object's number

other_name : (y x : ObjectInfo) (objects : List ObjectInfo) (id : ℕ) → AllByRecursion (λ name. bytes_eq y.name name ≡ false) (map (λ (z : ObjectInfo). z.name) objects) →
    slice_get objects id ≡ Some x → bytes_eq x.name y.name ≡ false
other_name y x [] id others at = no_value x at
other_name y x (z ∷ objects) zero others at =
    let same : z ≡ x = cc in
    nat_list_eq_equiv.symm x.name y.name ∙ ap (λ (o : ObjectInfo). bytes_eq y.name o.name) (sym same) ∙ others.0
other_name y x (z ∷ objects) (suc id) others at = other_name y x objects id others.1 at

found_own : (objects : List ObjectInfo) (id : ℕ) (x : ObjectInfo) → IsDistinct bytes_eq (map (λ (z : ObjectInfo). z.name) objects) → slice_get objects id ≡ Some x →
    find (λ (z : ObjectInfo). bytes_eq x.name z.name) objects ≡ Some x
found_own [] id x distinct at = no_value x at
found_own (y ∷ objects) zero x distinct at =
    let same : y ≡ x = cc in
    ap (λ b. if b then Some y else find (λ (z : ObjectInfo). bytes_eq x.name z.name) objects)
    (ap (λ (o : ObjectInfo). bytes_eq x.name o.name) same ∙ nat_list_eq_equiv.refl x.name)
    ∙ ap Some same
found_own (y ∷ objects) (suc id) x distinct at =
    let names = map (λ (z : ObjectInfo). z.name) objects in
    ap (λ b. if b then Some y else find (λ (z : ObjectInfo). bytes_eq x.name z.name) objects)
    (other_name y x objects id (IsDistinct-head bytes_eq y.name names distinct) at)
    ∙ found_own objects id x (IsDistinct-tail bytes_eq y.name names distinct) at

pub number_is_reachable : (writes : List Write) → are_accepted empty_catalog 0 writes ≡ true → (id t : ℕ) (x : ObjectInfo) (k : ClassInfo) (there : List Cell) →
    slice_get (catalog writes).objects id ≡ Some x → slice_get (catalog writes).classes x.class ≡ Some k → cells_at (history writes) id t ≡ Some there →
    IsReachable k.attributes t there
number_is_reachable writes accepted id t x k there object class at =
    named_is_reachable writes x.name t accepted k there
    (ap (option_and_then (λ (y : ObjectInfo). slice_get (catalog writes).classes y.class)) (found_own (catalog writes).objects id x (names_apart writes) object) ∙ class)
    (ap (option_and_then (λ (y : ObjectInfo). state writes y.name t)) (sym object) ∙ at)
