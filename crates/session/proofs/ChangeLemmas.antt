-- The world after a command of the database was carried out.
use Rattle.std.proofs.Common.{◌≡◌, ℕ, ◌+◌, Bool, true, false, Option, None, Some, List, [], ◌∷◌, ◌++◌, length, map, refl, sym, ap, ◌∙◌, subst, inl, inr, append-nil, arith, if◌then◌else◌}
use Rattle.std.specs.Prelude.{get_or, slice_get, unwrap_or}
use Rattle.std.specs.List.{find, list_any, position, position_or_len}
use Rattle.std.specs.Option.{option_map, option_map_or}
use Rattle.std.specs.Str.{bytes_eq}
use Rattle.std.proofs.lemmas.Bool.{cases_lt, false≢true}
use Rattle.std.proofs.lemmas.List.{get_or-map, get_or_append_left, length-append, length-map}
use Rattle.std.proofs.lemmas.List.Folds.{find_at, list_any_at}
use Rattle.std.proofs.lemmas.Option.{slice_get-get_or}
use Rattle.std.proofs.lemmas.List.Quantifiers.{position-Some}
use Rattle.motion.specs.declared.cell.AttrKind.{AttrKind}
use Rattle.fixed_point.specs.declared.number.Point.{Point}
use Rattle.geometry.specs.Region.{Region}
use Rattle.history.specs.Catalog.{Catalog, ClassInfo, ObjectInfo, catalog, catalog_after, has_object, number_of_class, object_of, with_new_object}
use Rattle.history.specs.History.{ChangesFrom, cells_at}
use Rattle.history.specs.World.{World, world_of}
use Rattle.history.specs.Write.{Class, Insert, Remove, Update, Write}
use Rattle.history.proofs.HistoryLemmas.{catalog-append}
use Rattle.object_store.specs.Contents.{Contents, StoredObject, catalog_of, history_of, is_named, object_info}
use Rattle.command_text.specs.Journal.{Accepted, clock, is_kept, ticks_of}
use Rattle.command_text.specs.Tree
use Rattle.command_text.specs.Tree.{CommandTree}
use Rattle.line_meaning.specs.Journal.{attribute_of, regions, regions_of, writes, writes_of}
use Rattle.line_meaning.specs.Role.{is_on_queries}
use Rattle.line_meaning.proofs.JournalLemmas.{clock_more, regions_more, world_more, writes_more}
use Rattle.live_queries.specs.Asked.{class_in}
use Rattle.live_queries.specs.Renewed.{AddsAtMost, ChangesNoObject}
use Rattle.database.specs.declared.change.Change.{Change}
use Rattle.database.specs.declared.change.Change.TheVariants as changes
use Rattle.database.specs.declared.database.Database.{Database}
use Rattle.database.specs.Attempt.{Carries, ChangesWorld, written_name}
use Rattle.database.specs.Keeping.{Keeps, clock_of, world_of_database}
use Rattle.database.specs.Written.{writes_object}
use Rattle.session.specs.Followed.{object_of_change}

-- ---- by what is kept before and after it

module _ (journal : List Accepted) (now : ℕ) (c : CommandTree) (old new : Database) (keeps : Keeps journal old)
    (kept : Keeps (journal ++ (now, c) ∷ []) new) where
  pub clock_after : clock_of new ≡ clock_of old + ticks_of c
  clock_after =
      let more : clock (journal ++ (now, c) ∷ []) ≡ clock journal + ticks_of c = clock_more journal now c in
      let after : clock_of new ≡ clock (journal ++ (now, c) ∷ []) = kept.clock_is in
      let before : clock_of old ≡ clock journal = keeps.clock_is in
      omega (arith, more, after, before)

  pub regions_after : new.regions ≡ old.regions ++ regions_of c
  regions_after =
      ap (λ (w : World). w.regions) kept.told_is ∙ regions_more journal now c
      ∙ ap (λ (w : World). w.regions ++ regions_of c) (sym keeps.told_is)

  pub same_world : writes_of now c ≡ [] → regions_of c ≡ [] → world_of_database new ≡ world_of_database old
  same_world no-write no-region =
      kept.told_is ∙ world_more journal now c
      ∙ (λ i. world_of (writes journal ++ no-write i) (regions journal ++ no-region i))
      ∙ (λ i. world_of (append-nil (writes journal) i) (append-nil (regions journal) i))
      ∙ sym keeps.told_is

  pub catalog_is : (w : Write) → writes_of now c ≡ w ∷ [] → catalog_of new.store ≡ catalog_after (catalog_of old.store) w
  catalog_is w one =
      ap (λ (v : World). v.history.catalog) kept.told_is
      ∙ ap catalog (writes_more journal now c ∙ ap (λ ws. writes journal ++ ws) one)
      ∙ catalog-append (writes journal) w
      ∙ ap (λ (v : World). catalog_after v.history.catalog w) (sym keeps.told_is)

-- ---- a command that writes to no object

-- the classes may be more, and no object changes
pub record AddsToWorld (old new : World) : Type 0 where
  pub changes : ChangesNoObject old new
  pub classes : List ClassInfo
  pub all_classes : new.history.catalog.classes ≡ old.history.catalog.classes ++ classes

same_adds : (old new : World) → new ≡ old → AddsToWorld old new
same_adds old new same = subst (λ (w : World). AddsToWorld old w) (sym same) (record {
  changes = record { objects = refl; states = λ i t. refl; more = []; regions = sym (append-nil old.regions) };
  classes = [];
  all_classes = sym (append-nil old.history.catalog.classes);
})

one_longer : {X : Type 0} (xs : List X) (x : X) → length (xs ++ x ∷ []) ≡ length xs + 1
one_longer xs x = length-append xs (x ∷ [])

not_longer : {X : Type 0} (xs ys : List X) (x : X) → ys ≡ xs ++ x ∷ [] → ys ≡ xs → ⊥
not_longer xs ys x more same =
    let a : length ys ≡ length xs + 1 = ap length more ∙ one_longer xs x in
    let b : length ys ≡ length xs = ap length same in
    omega (arith, a, b)

-- a class is more, so the change is one of a class
class_adds : (name : List ℕ) (capacity : ℕ) (point : Bool) (attributes : List (List ℕ × AttrKind)) (k : ClassInfo) (change : Change) (old new : Database) →
    new.store.classes ≡ old.store.classes ++ k ∷ [] → ChangesWorld (Tree.Class name capacity point attributes) change old new →
    AddsToWorld (world_of_database old) (world_of_database new)
class_adds name capacity point attributes k changes.Class old new more is = record {
  changes = record {
    objects = ap (λ (s : Contents). map object_info s.objects) is.0;
    states = λ i t. ap (λ (s : Contents). cells_at (history_of s) i t) is.0;
    more = [];
    regions = is.1 ∙ sym (append-nil old.regions);
  };
  classes = k ∷ [];
  all_classes = more;
}
class_adds name capacity point attributes k changes.Region old new more is =
    absurd (not_longer old.store.classes new.store.classes k more (ap (λ (s : Contents). s.classes) is.0))
class_adds name capacity point attributes k (changes.Object done) old new more is =
    absurd (not_longer old.store.classes new.store.classes k more is.0.classes)
class_adds name capacity point attributes k (changes.Clock ticks) old new more is =
    absurd (not_longer old.store.classes new.store.classes k more (ap (λ (w : World). w.history.catalog.classes) is))

region_adds : (name : List ℕ) (points : List Point) (r : Region) (change : Change) (old new : Database) → new.regions ≡ old.regions ++ r ∷ [] →
    ChangesWorld (Tree.Region name points) change old new → AddsToWorld (world_of_database old) (world_of_database new)
region_adds name points r changes.Class old new more is = absurd is
region_adds name points r changes.Region old new more is = record {
  changes = record {
    objects = ap (λ (s : Contents). map object_info s.objects) is.0;
    states = λ i t. ap (λ (s : Contents). cells_at (history_of s) i t) is.0;
    more = r ∷ [];
    regions = more;
  };
  classes = [];
  all_classes = ap (λ (s : Contents). s.classes) is.0 ∙ sym (append-nil old.store.classes);
}
region_adds name points r (changes.Object done) old new more is = absurd (not_longer old.regions new.regions r more is.1)
region_adds name points r (changes.Clock ticks) old new more is =
    absurd (not_longer old.regions new.regions r more (ap (λ (w : World). w.regions) is))

-- what changed no object left the world as it was, where the command adds nothing to it
unwritten : (c : CommandTree) (change : Change) (old new : Database) → writes_object c ≡ true → object_of_change change ≡ None →
    regions_of c ≡ [] → (ChangesWorld c changes.Class old new → ⊥) → ChangesWorld c change old new → world_of_database new ≡ world_of_database old
unwritten c changes.Class old new write none no-region never is = absurd (never is)
unwritten c changes.Region old new write none no-region never is =
    λ i. record { history = history_of (is.0 i); regions = (is.1 ∙ ap (λ rs. old.regions ++ rs) no-region ∙ append-nil old.regions) i }
unwritten c (changes.Object done) old new write none no-region never is = absurd (cc none)
unwritten c (changes.Clock ticks) old new write none no-region never is = is

-- the same of each of these commands
pub write_unmade : (c : CommandTree) (change : Change) (old new : Database) → writes_object c ≡ true → object_of_change change ≡ None →
    ChangesWorld c change old new → world_of_database new ≡ world_of_database old
write_unmade (Tree.Insert class name place sets) change old new write none is =
    unwritten (Tree.Insert class name place sets) change old new write none refl (λ x. x) is
write_unmade (Tree.Update name place sets) change old new write none is = unwritten (Tree.Update name place sets) change old new write none refl (λ x. x) is
write_unmade (Tree.Remove name) change old new write none is = unwritten (Tree.Remove name) change old new write none refl (λ x. x) is
write_unmade c change old new write none is = absurd (cc write)

pub adds_to_world : (journal : List Accepted) (c : CommandTree) (change : Change) (old new : Database) → Keeps journal old → Carries c old new change →
    is_kept c ≡ true → is_on_queries c ≡ false → (writes_object c ≡ true → object_of_change change ≡ None) →
    AddsToWorld (world_of_database old) (world_of_database new)
adds_to_world journal (Tree.Class name capacity point attributes) change old new keeps carries kept plain none =
    class_adds name capacity point attributes _ change old new
    (ap (λ (k : Catalog). k.classes)
    (catalog_is journal (clock_of old) (Tree.Class name capacity point attributes) old new keeps (carries.keeps journal keeps)
    (Class name capacity point (map attribute_of attributes)) refl))
    carries.changes
adds_to_world journal (Tree.Region name points) change old new keeps carries kept plain none =
    region_adds name points _ change old new
    (regions_after journal (clock_of old) (Tree.Region name points) old new keeps (carries.keeps journal keeps)) carries.changes
adds_to_world journal (Tree.Tick ticks) change old new keeps carries kept plain none =
    same_adds (world_of_database old) (world_of_database new)
    (same_world journal (clock_of old) (Tree.Tick ticks) old new keeps (carries.keeps journal keeps) refl refl)
adds_to_world journal (Tree.Insert class name place sets) change old new keeps carries kept plain none =
    same_adds (world_of_database old) (world_of_database new)
    (write_unmade (Tree.Insert class name place sets) change old new refl (none refl) carries.changes)
adds_to_world journal (Tree.Update name place sets) change old new keeps carries kept plain none =
    same_adds (world_of_database old) (world_of_database new)
    (write_unmade (Tree.Update name place sets) change old new refl (none refl) carries.changes)
adds_to_world journal (Tree.Remove name) change old new keeps carries kept plain none =
    same_adds (world_of_database old) (world_of_database new) (write_unmade (Tree.Remove name) change old new refl (none refl) carries.changes)
adds_to_world journal (Tree.Watch name span q) change old new keeps carries kept plain none = absurd (cc plain)
adds_to_world journal (Tree.Keep name span q) change old new keeps carries kept plain none = absurd (cc plain)
adds_to_world journal (Tree.Drop name) change old new keeps carries kept plain none = absurd (cc plain)
adds_to_world journal c change old new keeps carries kept plain none = absurd (cc kept)

-- ---- a command that writes to an object

pub record WritesWorld (c : CommandTree) (id : ℕ) (old new : Database) : Type 0 where
  pub changes : ChangesFrom id old.clock (history_of old.store) (history_of new.store)
  pub regions : new.regions ≡ old.regions
  pub place : position (is_named (written_name c)) new.store.objects ≡ Some id

pub writes_world : (c : CommandTree) (change : Change) (id : ℕ) (old new : Database) → object_of_change change ≡ Some id →
    ChangesWorld c change old new → WritesWorld c id old new
writes_world c (changes.Object done) id old new its is =
    let e : done.id ≡ id = ap (λ o. unwrap_or o 0) its in
    subst (λ i. WritesWorld c i old new) e (record { changes = is.0; regions = is.1; place = is.2 })
writes_world c changes.Class id old new its is = absurd (cc its)
writes_world c changes.Region id old new its is = absurd (cc its)
writes_world c (changes.Clock ticks) id old new its is = absurd (cc its)

-- no clock moves
pub write_ticks : (c : CommandTree) → writes_object c ≡ true → ticks_of c ≡ 0
write_ticks (Tree.Insert class name place sets) write = refl
write_ticks (Tree.Update name place sets) write = refl
write_ticks (Tree.Remove name) write = refl
write_ticks c write = absurd (cc write)

-- ---- the object of a write is the one that may be new

-- no object before it has the name, so the place is past them
new_is_last : (name : List ℕ) (xs : List StoredObject) (ys : List ObjectInfo) (o : ObjectInfo) (id : ℕ) →
    position (is_named name) xs ≡ Some id → map object_info xs ≡ ys ++ o ∷ [] → list_any (λ y. bytes_eq name y.name) ys ≡ false → id ≡ length ys
new_is_last name xs ys o id at is none =
    let d : StoredObject = record { name = name; class = 0; epochs = [] } in
    let found = position-Some (is_named name) xs id d at in
    let count : length xs ≡ length ys + 1 = sym (length-map xs object_info) ∙ ap length is ∙ one_longer ys o in
    elim (cases_lt id (length ys)) [
      | inl within ↦
          let same : get_or ys id (object_info d) ≡ object_info (get_or xs id d) =
          sym (get_or_append_left ys (o ∷ []) (object_info d) id within)
          ∙ ap (λ (zs : List ObjectInfo). get_or zs id (object_info d)) (sym is)
          ∙ get_or-map object_info xs id d (object_info d) found.0 in
          absurd
          (false≢true (sym none ∙ list_any_at (λ (y : ObjectInfo). bytes_eq name y.name) ys id (object_info d) within
          (ap (λ (z : ObjectInfo). bytes_eq name z.name) same ∙ found.1)))
      | inr past ↦ omega (arith, count, past, found.0)
    ]

adds_by_insert : (name : List ℕ) (id : ℕ) (old new : Contents) (has : Bool) (class : Option ℕ) →
    list_any (λ o. bytes_eq name o.name) (catalog_of old).objects ≡ has →
    catalog_of new ≡ (if has then catalog_of old else with_new_object (catalog_of old) class name) →
    position (is_named name) new.objects ≡ Some id → AddsAtMost id (catalog_of old) (catalog_of new)
adds_by_insert name id old new true class has is at = λ i from upto.
    let e : length (catalog_of new).objects ≡ length (catalog_of old).objects = ap (λ (k : Catalog). length k.objects) is in
    absurd (omega (arith, e, from, upto))
adds_by_insert name id old new false None has is at = λ i from upto.
    let e : length (catalog_of new).objects ≡ length (catalog_of old).objects = ap (λ (k : Catalog). length k.objects) is in
    absurd (omega (arith, e, from, upto))
adds_by_insert name id old new false (Some class) has is at = λ i from upto.
    let more : (catalog_of new).objects ≡ (catalog_of old).objects ++ record { name = name; class = class } ∷ [] = ap (λ (k : Catalog). k.objects) is in
    let e : length (catalog_of new).objects ≡ length (catalog_of old).objects + 1 = ap length more ∙ one_longer (catalog_of old).objects _ in
    let last : id ≡ length (catalog_of old).objects = new_is_last name new.objects (catalog_of old).objects _ id at more has in
    omega (arith, e, last, from, upto)

adds_nothing : (id : ℕ) (old new : Catalog) → new ≡ old → AddsAtMost id old new
adds_nothing id old new same = λ i from upto.
    let e : length new.objects ≡ length old.objects = ap (λ (k : Catalog). length k.objects) same in
    absurd (omega (arith, e, from, upto))

pub adds_at_most : (journal : List Accepted) (c : CommandTree) (id : ℕ) (old new : Database) → Keeps journal old →
    Keeps (journal ++ (clock_of old, c) ∷ []) new → writes_object c ≡ true → position (is_named (written_name c)) new.store.objects ≡ Some id →
    AddsAtMost id (catalog_of old.store) (catalog_of new.store)
adds_at_most journal (Tree.Insert class name place sets) id old new keeps kept write at =
    adds_by_insert name id old.store new.store (has_object (catalog_of old.store) name) (number_of_class (catalog_of old.store) class) refl
    (catalog_is journal (clock_of old) (Tree.Insert class name place sets) old new keeps kept (Insert (clock_of old) class name place sets) refl) at
adds_at_most journal (Tree.Update name place sets) id old new keeps kept write at =
    adds_nothing id (catalog_of old.store) (catalog_of new.store)
    (catalog_is journal (clock_of old) (Tree.Update name place sets) old new keeps kept (Update (clock_of old) name place sets) refl)
adds_at_most journal (Tree.Remove name) id old new keeps kept write at =
    adds_nothing id (catalog_of old.store) (catalog_of new.store)
    (catalog_is journal (clock_of old) (Tree.Remove name) old new keeps kept (Remove (clock_of old) name) refl)
adds_at_most journal c id old new keeps kept write at = absurd (cc write)

-- ---- the class of the object of a name

find_mapped : {X Y : Type 0} (f : X → Y) (p : Y → Bool) (xs : List X) → find p (map f xs) ≡ option_map f (find (λ x. p (f x)) xs)
find_mapped f p [] = refl
find_mapped f p (x ∷ xs) = one (p (f x)) (find_mapped f p xs)
  where
    one : (b : Bool) → find p (map f xs) ≡ option_map f (find (λ y. p (f y)) xs) →
        (if b then Some (f x) else find p (map f xs)) ≡ option_map f (if b then Some x else find (λ y. p (f y)) xs)
    one true same = refl
    one false same = same

pub by_class : (g : ℕ → ℕ) (name : List ℕ) (s : Contents) (id : ℕ) → position (is_named name) s.objects ≡ Some id →
    option_map_or (λ o. g o.class) (object_of (catalog_of s) name) 0 ≡ g (class_in s id)
by_class g name s id at =
    let d : StoredObject = record { name = name; class = 0; epochs = [] } in
    let found = position-Some (is_named name) s.objects id d at in
    let here : slice_get s.objects id ≡ Some (get_or s.objects id d) = slice_get-get_or s.objects id d found.0 in
    ap (λ (o : Option ObjectInfo). option_map_or (λ x. g x.class) o 0)
    (find_mapped object_info (λ (o : ObjectInfo). bytes_eq name o.name) s.objects
    ∙ ap (option_map object_info)
    (find_at (is_named name) s.objects ∙ ap (slice_get s.objects) (place_is _ (position_or_len (is_named name) s.objects) id at) ∙ here))
    ∙ ap (λ (o : Option StoredObject). g (option_map_or (λ x. x.class) o 0)) (sym here)
  where
    place_is : (b : Bool) (n i : ℕ) → (if b then Some n else None) ≡ Some i → n ≡ i
    place_is true n i e = ap (λ o. unwrap_or o 0) e
    place_is false n i e = absurd (cc e)
