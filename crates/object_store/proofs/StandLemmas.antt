-- A store goes on standing for its writes.
use Rattle.std.proofs.Common.{◌≡◌, ℕ, ◌+◌, ◌-◌, Bool, true, false, cond, ◌&&◌, nat_le, Option, None, Some, List, [], ◌∷◌, ◌++◌, map, refl, sym, ap, ◌∙◌, if◌then◌else◌}
use Rattle.std.specs.Prelude.{option_and_then, option_map, is_some, All}
use Rattle.std.specs.List.{find, list_any}
use Rattle.std.specs.Option.{option_or}
use Rattle.std.specs.Str.{bytes_eq}
use Rattle.std.proofs.lemmas.List.{map-append}
use Rattle.std.proofs.lemmas.List.Folds.{find-append}
use Rattle.exact.proofs.Lists.{bytes_eq_true}
use Rattle.exact.proofs.Naturals.{at_most_from_test}
use Rattle.motion.specs.declared.cell.Cell.{Cell}
use Rattle.motion.specs.declared.cell.NamedSet.{NamedSet}
use Rattle.motion.specs.declared.cell.Place.{Place}
use Rattle.motion.specs.Timeline.{Epoch, put, state_at, AreBegunBy}
use Rattle.motion.proofs.CallerLemmas.{state_at_put, settled}
use Rattle.history.specs.Write.{Attribute, Write, Class, Insert, Update, Remove}
use Rattle.history.specs.Catalog.{Catalog, ObjectInfo, catalog_after, has_object, class_of, number_of_class, object_of, attributes_of_class, with_new_object}
use Rattle.history.specs.State.{cells_after_write, inserted, updated, attributes_of_object}
use Rattle.history.specs.History.{History, history}
use Rattle.history.proofs.HistoryLemmas.{same_history, catalog-append, state-append}
use Rattle.object_store.specs.Contents.{StoredObject, Contents, object_info, catalog_of, is_named, state_of, history_of}
use Rattle.object_store.specs.Effects.{put_named, with_epoch_of, with_object, number_or_first, with_class, after_insert, after_update, after_remove}
use Rattle.object_store.specs.StandsFor.{GrowsBy}
use Rattle.object_store.proofs.Lists.{list_any-map, All-find, is_some-find}

-- ---- one more write

-- what a store has to show of one more write
pub record Follows (old new : Contents) (w : Write) : Type 0 where
  pub catalog : catalog_of new ≡ catalog_after (catalog_of old) w
  pub state : (o : List ℕ) (t : ℕ) → state_of new o t ≡ cells_after_write (catalog_of old) o t (state_of old o t) w

pub grows : (old new : Contents) (w : Write) → Follows old new w → GrowsBy old new w
grows old new w follows writes stands =
    same_history (history_of new) (history (writes ++ w ∷ []))
    (follows.catalog ∙ ap (λ (h : History). catalog_after h.catalog w) stands ∙ sym (catalog-append writes w))
    (λ o t.
    follows.state o t
    ∙ ap (λ (h : History). cells_after_write h.catalog o t (h.state o t) w) stands
    ∙ sym (state-append writes w o t))

-- ---- an epoch of a named object

abbrev with_epoch : Epoch → StoredObject → StoredObject
with_epoch p o = record o { epochs = put o.epochs p }

find_if : {X : Type 0} (q : X → Bool) (b : Bool) (xs ys : List X) → find q (if b then xs else ys) ≡ (if b then find q xs else find q ys)
find_if q true xs ys = refl
find_if q false xs ys = refl

found_step : (here named found : Bool) (p : Epoch) (x : StoredObject) (rest written : Option StoredObject) → (here ≡ true → found ≡ named) → (here ≡ false → named ≡ true → found ≡ false) → written ≡ (if named then option_map (with_epoch p) rest else rest)
    → (if here then cond found (Some (with_epoch p x)) rest else cond found (Some x) written) ≡ (if named then option_map (with_epoch p) (cond found (Some x) rest) else cond found (Some x) rest)
found_step true true true p x rest written same apart later = refl
found_step true true false p x rest written same apart later = let e : false ≡ true = same refl in cc
found_step true false true p x rest written same apart later = let e : true ≡ false = same refl in cc
found_step true false false p x rest written same apart later = refl
found_step false true true p x rest written same apart later = let e : true ≡ false = apart refl refl in cc
found_step false true false p x rest written same apart later = later
found_step false false true p x rest written same apart later = refl
found_step false false false p x rest written same apart later = later

nothing_there : (b : Bool) (p : Epoch) → None ≡ (if b then option_map (with_epoch p) None else None)
nothing_there true p = refl
nothing_there false p = refl

-- what is found by a name, when the named object has one more epoch
pub find-put_named : (name o : List ℕ) (p : Epoch) (objects : List StoredObject) → find (is_named o) (put_named name p objects) ≡ (if bytes_eq o name then option_map (with_epoch p) (find (is_named o) objects) else find (is_named o) objects)
find-put_named name o p [] = nothing_there (bytes_eq o name) p
find-put_named name o p (x ∷ xs) =
    find_if (is_named o) (bytes_eq name x.name) (with_epoch p x ∷ xs) (x ∷ put_named name p xs)
    ∙ found_step (bytes_eq name x.name) (bytes_eq o name) (bytes_eq o x.name) p x (find (is_named o) xs) (find (is_named o) (put_named name p xs))
    (λ h. ap (bytes_eq o) (sym (bytes_eq_true name x.name h)))
    (λ h k. ap (λ n. bytes_eq n x.name) (bytes_eq_true o name k) ∙ h)
    (find-put_named name o p xs)

-- the state of a list of objects
abbrev state_in : List StoredObject → List ℕ → ℕ → Option (List Cell)
state_in objects o t = option_and_then (λ (x : StoredObject). state_at x.epochs t) (find (is_named o) objects)

-- the cells of an epoch, where there is an object
abbrev cells_if : Option StoredObject → Option (List Cell) → Option (List Cell)
cells_if found cells = option_and_then (λ _. cells) found

state_step : (named begun : Bool) (p : Epoch) (found : Option StoredObject) (t : ℕ) → nat_le p.from t ≡ begun
    → option_and_then (λ (x : StoredObject). state_at x.epochs t) (if named then option_map (with_epoch p) found else found) ≡ (if named && begun then cells_if found p.cells else option_and_then (λ (x : StoredObject). state_at x.epochs t) found)
state_step true true p None t h = refl
state_step true true p (Some x) t h = state_at_put x.epochs p t ∙ ap (λ b. if b then p.cells else state_at x.epochs t) h
state_step true false p None t h = refl
state_step true false p (Some x) t h = state_at_put x.epochs p t ∙ ap (λ b. if b then p.cells else state_at x.epochs t) h
state_step false begun p found t h = refl

pub state-put_named : (name o : List ℕ) (p : Epoch) (t : ℕ) (objects : List StoredObject) → state_in (put_named name p objects) o t ≡ (if bytes_eq o name && nat_le p.from t then cells_if (find (is_named o) objects) p.cells else state_in objects o t)
state-put_named name o p t objects =
    ap (option_and_then (λ (x : StoredObject). state_at x.epochs t)) (find-put_named name o p objects)
    ∙ state_step (bytes_eq o name) (nat_le p.from t) p (find (is_named o) objects) t refl

-- the catalog stays
info_step : (b : Bool) (p : Epoch) (x : StoredObject) (xs ys : List StoredObject) → map object_info ys ≡ map object_info xs → map object_info (if b then (with_epoch p x ∷ xs) else (x ∷ ys)) ≡ object_info x ∷ map object_info xs
info_step true p x xs ys same = refl
info_step false p x xs ys same = ap (λ os. object_info x ∷ os) same

pub infos-put_named : (name : List ℕ) (p : Epoch) (objects : List StoredObject) → map object_info (put_named name p objects) ≡ map object_info objects
infos-put_named name p [] = refl
infos-put_named name p (x ∷ xs) =
    info_step (bytes_eq name x.name) p x xs (put_named name p xs) (infos-put_named name p xs)

-- ---- the four writes

-- a removal
cells_or_none : (found : Option StoredObject) → cells_if found None ≡ None
cells_or_none None = refl
cells_or_none (Some x) = refl

pub follows_remove : (s : Contents) (now : ℕ) (name : List ℕ) → Follows s (after_remove s now name) (Remove now name)
follows_remove s now name =
    let p : Epoch = record { from = now; cells = None } in
    record {
      catalog = ap (λ os. let c : Catalog = record { classes = s.classes; objects = os } in c) (infos-put_named name p s.objects);
      state = λ o t.
          state-put_named name o p t s.objects
          ∙ ap (λ cells. if bytes_eq o name && nat_le now t then cells else state_of s o t) (cells_or_none (find (is_named o) s.objects));
    }

-- an update
updated_step : (named begun : Bool) (found : Option StoredObject) (f g : List Cell → List Cell) (now t : ℕ) (before : Option (List Cell)) → (named ≡ true → (g ≡ f) × (before ≡ option_and_then (λ (x : StoredObject). state_at x.epochs now) found)) → (begun ≡ true → (x : StoredObject) → found ≡ Some x → state_at x.epochs t ≡ state_at x.epochs now)
    → (if named && begun then cells_if found (option_map f before) else option_and_then (λ (x : StoredObject). state_at x.epochs t) found)
    ≡ (if named && begun then option_map g (option_and_then (λ (x : StoredObject). state_at x.epochs t) found) else option_and_then (λ (x : StoredObject). state_at x.epochs t) found)
updated_step true true None f g now t before same settled = refl
updated_step true true (Some x) f g now t before same settled =
    let facts = same refl in
    ap (option_map f) (facts.1 ∙ sym (settled refl x refl)) ∙ ap (λ h. option_map h (state_at x.epochs t)) (sym facts.0)
updated_step true false found f g now t before same settled = refl
updated_step false begun found f g now t before same settled = refl

pub follows_update : (s : Contents) (now : ℕ) (name : List ℕ) (place : Place) (sets : List NamedSet) → All (λ (o : StoredObject). AreBegunBy o.epochs now) s.objects → Follows s (after_update s now name place sets) (Update now name place sets)
follows_update s now name place sets begun =
    let c = catalog_of s in
    let write : List ℕ → List Cell → List Cell = λ o. updated now (attributes_of_object c (object_of c o)) place sets in
    let p : Epoch = record { from = now; cells = option_map (write name) (state_of s name now) } in
    record {
      catalog = ap (λ os. let c : Catalog = record { classes = s.classes; objects = os } in c) (infos-put_named name p s.objects);
      state = λ o t.
          state-put_named name o p t s.objects
          ∙ updated_step (bytes_eq o name) (nat_le now t) (find (is_named o) s.objects) (write name) (write o) now t (state_of s name now)
          (λ h. let same : o ≡ name = bytes_eq_true o name h in (ap write same, ap (λ n. state_of s n now) (sym same)))
          (λ h x found. settled x.epochs now t (All-find (λ (o : StoredObject). AreBegunBy o.epochs now) (is_named o) s.objects x begun found) (at_most_from_test now t h));
    }

-- an insert
insert_there : (named begun : Bool) (found : Option StoredObject) (cells : List Cell) (rest : Option (List Cell)) → (named ≡ true → is_some found ≡ true) → (if named && begun then cells_if found (Some cells) else rest) ≡ (if named && begun then Some cells else rest)
insert_there true true None cells rest there = let e : false ≡ true = there refl in cc
insert_there true true (Some x) cells rest there = refl
insert_there true false found cells rest there = refl
insert_there false begun found cells rest there = refl

insert_new : (named begun : Bool) (found : Option StoredObject) (p : Epoch) (x : StoredObject) (t : ℕ) → (named ≡ true → is_some found ≡ false) → nat_le p.from t ≡ begun → x.epochs ≡ p ∷ []
    → option_and_then (λ (x : StoredObject). state_at x.epochs t) (option_or found (cond named (Some x) None)) ≡ (if named && begun then p.cells else option_and_then (λ (x : StoredObject). state_at x.epochs t) found)
insert_new true begun (Some y) p x t new from one = let e : true ≡ false = new refl in cc
insert_new true true None p x t new from one = ap (λ ps. state_at ps t) one ∙ ap (λ b. option_and_then (λ (p : Epoch). p.cells) (if b then Some p else None)) from
insert_new true false None p x t new from one = ap (λ ps. state_at ps t) one ∙ ap (λ b. option_and_then (λ (p : Epoch). p.cells) (if b then Some p else None)) from
insert_new false begun None p x t new from one = refl
insert_new false begun (Some y) p x t new from one = refl

-- the objects after an insert, by whether the name is there
abbrev inserted_if : Bool → ℕ → List ℕ → Epoch → List StoredObject → List StoredObject
inserted_if there class name p objects =
    if there then put_named name p objects else objects ++ record { name = name; class = class; epochs = put [] p } ∷ []

state-insert : (there : Bool) (class : ℕ) (name o : List ℕ) (now : ℕ) (cells : List Cell) (t : ℕ) (objects : List StoredObject) → list_any (is_named name) objects ≡ there
    → state_in (inserted_if there class name (record { from = now; cells = Some cells }) objects) o t ≡ (if bytes_eq o name && nat_le now t then Some cells else state_in objects o t)
state-insert true class name o now cells t objects there =
    state-put_named name o (record { from = now; cells = Some cells }) t objects
    ∙ insert_there (bytes_eq o name) (nat_le now t) (find (is_named o) objects) cells (state_in objects o t)
    (λ h. is_some-find (is_named o) objects ∙ ap (λ n. list_any (is_named n) objects) (bytes_eq_true o name h) ∙ there)
state-insert false class name o now cells t objects there =
    let p : Epoch = record { from = now; cells = Some cells } in
    let x : StoredObject = record { name = name; class = class; epochs = put [] p } in
    ap (option_and_then (λ (x : StoredObject). state_at x.epochs t)) (find-append (is_named o) objects (x ∷ []))
    ∙ insert_new (bytes_eq o name) (nat_le now t) (find (is_named o) objects) p x t
    (λ h. is_some-find (is_named o) objects ∙ ap (λ n. list_any (is_named n) objects) (bytes_eq_true o name h) ∙ there)
    refl refl

follows_insert_if : (there : Bool) (s : Contents) (number now : ℕ) (class name : List ℕ) (place : Place) (sets : List NamedSet) → list_any (is_named name) s.objects ≡ there → number_of_class (catalog_of s) class ≡ Some number
    → let p : Epoch = record { from = now; cells = Some (inserted now (attributes_of_class (class_of (catalog_of s) class)) place sets) } in
    Follows s (if there then with_epoch_of s name p else with_object s number name p) (Insert now class name place sets)
follows_insert_if true s number now class name place sets there known =
    let c = catalog_of s in
    let cells = inserted now (attributes_of_class (class_of c class)) place sets in
    let p : Epoch = record { from = now; cells = Some cells } in
    let has : has_object c name ≡ true = list_any-map (λ (i : ObjectInfo). bytes_eq name i.name) object_info s.objects ∙ there in
    record {
      catalog =
          ap (λ os. let c : Catalog = record { classes = s.classes; objects = os } in c) (infos-put_named name p s.objects)
          ∙ ap (λ b. if b then c else with_new_object c (number_of_class c class) name) (sym has);
      state = λ o t. state-insert true number name o now cells t s.objects there;
    }
follows_insert_if false s number now class name place sets there known =
    let c = catalog_of s in
    let cells = inserted now (attributes_of_class (class_of c class)) place sets in
    let p : Epoch = record { from = now; cells = Some cells } in
    let has : has_object c name ≡ false = list_any-map (λ (i : ObjectInfo). bytes_eq name i.name) object_info s.objects ∙ there in
    record {
      catalog =
          ap (λ os. let c : Catalog = record { classes = s.classes; objects = os } in c)
          (map-append object_info s.objects (record { name = name; class = number; epochs = put [] p } ∷ []))
          ∙ ap (λ r. with_new_object c r name) (sym known)
          ∙ ap (λ b. if b then c else with_new_object c (number_of_class c class) name) (sym has);
      state = λ o t. state-insert false number name o now cells t s.objects there;
    }

pub follows_insert : (s : Contents) (now : ℕ) (class name : List ℕ) (place : Place) (sets : List NamedSet) → number_of_class (catalog_of s) class ≡ Some (number_or_first s.classes class) → Follows s (after_insert s now class name place sets) (Insert now class name place sets)
follows_insert s now class name place sets known =
    follows_insert_if (list_any (is_named name) s.objects) s (number_or_first s.classes class) now class name place sets refl known

-- a class
pub follows_class : (s : Contents) (name : List ℕ) (capacity : ℕ) (point : Bool) (attributes : List Attribute) → Follows s (with_class s name capacity point attributes) (Class name capacity point attributes)
follows_class s name capacity point attributes = record { catalog = refl; state = λ o t. refl }
