use Rattle.std.proofs.Common.{◌≡◌, map, take}
use Rattle.live_queries.specs.Columns.{object_or}
use Rattle.live_queries.proofs.objects.objects_of.Given as goal

abbrev pub invariant-variables : goal.invariant-variables
invariant-variables l = l.objects ≡ map (object_or l.added l.columns l.number) (take l.variable-index l.variables)
