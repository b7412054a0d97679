use Rattle.std.proofs.Common.{◌≡◌, map, take}
use Rattle.history.specs.Catalog.{ids_of}
use Rattle.object_store.specs.Contents.{catalog_of}
use Rattle.answers.proofs.evaluating.domains_of.Given as goal

abbrev pub invariant-classes : goal.invariant-classes
invariant-classes l = l.domains ≡ map (ids_of (catalog_of l.store)) (take l.class-index l.q.classes)
