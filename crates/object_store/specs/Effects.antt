-- The contents of a store after an accepted write.
use Rattle.std.specs.Prelude.{ℕ, Bool, Some, None, List, [], ◌∷◌, ◌++◌, unwrap_or, if◌then◌else◌}
use Rattle.std.specs.List.{list_any}
use Rattle.std.specs.Str.{bytes_eq}
use Rattle.std.specs.Option.{option_map}
use Rattle.motion.specs.declared.cell.NamedSet.{NamedSet}
use Rattle.motion.specs.declared.cell.Place.{Place}
use Rattle.motion.specs.Timeline.{Epoch, put}
use Rattle.history.specs.Write.{Attribute}
use Rattle.history.specs.Catalog.{ClassInfo, class_number, with_coordinates, attributes_of_class, class_of, object_of}
use Rattle.history.specs.State.{inserted, updated, attributes_of_object}
use Rattle.object_store.specs.Contents.{StoredObject, Contents, catalog_of, is_named, state_of}

-- the objects after an epoch of the one of a name
abbrev pub put_named : List ℕ → Epoch → List StoredObject → List StoredObject
put_named name p [] = []
put_named name p (o ∷ os) =
    if bytes_eq name o.name then (record o { epochs = put o.epochs p } ∷ os) else (o ∷ put_named name p os)

-- the number of a class by its name, 0 where it isn't there
abbrev pub number_or_first : List ClassInfo → List ℕ → ℕ
number_or_first classes name = unwrap_or (class_number classes name) 0

abbrev pub with_class : Contents → List ℕ → ℕ → Bool → List Attribute → Contents
with_class s name capacity point attributes = record s {
  classes = s.classes
      ++ record { name = name; capacity = capacity; point = point; attributes = with_coordinates point attributes } ∷ [];
}

-- the contents after an epoch of the object of a name
abbrev pub with_epoch_of : Contents → List ℕ → Epoch → Contents
with_epoch_of s name p = record s { objects = put_named name p s.objects; last_tick = p.from }

-- and after one of a new object
abbrev pub with_object : Contents → ℕ → List ℕ → Epoch → Contents
with_object s class name p = record s {
  objects = s.objects ++ record { name = name; class = class; epochs = p ∷ [] } ∷ [];
  last_tick = p.from;
}

-- An insert begins with fresh cells and writes what it names.
abbrev pub after_insert : Contents → ℕ → List ℕ → List ℕ → Place → List NamedSet → Contents
after_insert s now class name place sets =
    let cells = inserted now (attributes_of_class (class_of (catalog_of s) class)) place sets in
    let p : Epoch = record { from = now; cells = Some cells } in
    if list_any (is_named name) s.objects then with_epoch_of s name p else with_object s (number_or_first s.classes class) name p

-- An update writes what it names.
abbrev pub after_update : Contents → ℕ → List ℕ → Place → List NamedSet → Contents
after_update s now name place sets =
    let attributes = attributes_of_object (catalog_of s) (object_of (catalog_of s) name) in
    with_epoch_of s name (record { from = now; cells = option_map (updated now attributes place sets) (state_of s name now) })

-- A removed object is absent, and keeps its name and its class.
abbrev pub after_remove : Contents → ℕ → List ℕ → Contents
after_remove s now name = with_epoch_of s name (record { from = now; cells = None })
