use Rattle.std.proofs.Common.{length}
use Rattle.object_store.specs.ObjectView.{objects_of}
use Rattle.object_store.specs.Searching.{IsNowhere, IsSearched}
use Rattle.object_store.proofs.near.those_near.Given as goal

-- those before the rest are found, or come nowhere
abbrev pub invariant-ids : goal.invariant-ids
invariant-ids l = IsSearched (IsNowhere (objects_of l.objects.entries) l.area l.w.lo l.w.hi) l.ids l.found.items l.rest

abbrev pub decreases-ids : goal.decreases-ids
decreases-ids l = length l.rest
