use Rattle.std.proofs.Common.{◌≡◌}
use Rattle.std.specs.List.{flat_map}
use Rattle.tick_set.specs.Ticks.{between}
use Rattle.object_store.specs.Contents.{catalog_of}
use Rattle.live_queries.specs.Written.{single_for}
use Rattle.live_queries.proofs.parts.singles.Given as goal

abbrev pub invariant-variables : goal.invariant-variables
invariant-variables l = l.singles.items ≡ flat_map (single_for (catalog_of l.store) l.classes l.object.class l.object.id) (between 0 l.variable)
