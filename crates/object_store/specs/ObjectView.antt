-- What the objects of a store are seen as.
use Rattle.std.specs.Prelude.{ℕ, List, map}
use Rattle.object_store.specs.declared.objects.Object.{Object}
use Rattle.object_store.specs.Contents.{StoredObject}

abbrev pub stored : List ℕ × Object → StoredObject
stored e = record { name = e.0; class = e.1.class; epochs = e.1.timeline }

abbrev pub objects_of : List (List ℕ × Object) → List StoredObject
objects_of entries = map stored entries
