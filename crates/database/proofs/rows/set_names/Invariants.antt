use Rattle.std.proofs.Common.{◌≡◌, true, ◌++◌, length, map}
use Rattle.std.specs.Prelude.{nat_lt}
use Rattle.std.specs.List.{list_all}
use Rattle.object_store.specs.Contents.{catalog_of}
use Rattle.history.specs.Catalog.{name_of}
use Rattle.database.proofs.rows.set_names.Given as goal

-- the names so far and those that are left make all
abbrev pub invariant-ids : goal.invariant-ids
invariant-ids l = record {
  whole : l.names.items ++ map (name_of (catalog_of l.store)) l.rest ≡ map (name_of (catalog_of l.store)) l.ids;
  there : list_all (λ id. nat_lt id (length (catalog_of l.store).objects)) l.rest ≡ true;
}

abbrev pub decreases-ids : goal.decreases-ids
decreases-ids l = length l.rest
