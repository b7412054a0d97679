use Rattle.std.proofs.Common.{◌≡◌, map}
use Rattle.tick_set.specs.Ticks.{between}
use Rattle.object_store.specs.Contents.{catalog_of}
use Rattle.live_queries.specs.Written.{ids_for}
use Rattle.live_queries.proofs.parts.domains_for.Given as goal

abbrev pub invariant-variables : goal.invariant-variables
invariant-variables l = l.domains ≡ map (ids_for (catalog_of l.store) l.classes l.id l.variable) (between 0 l.other)
