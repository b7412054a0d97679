use Rattle.std.proofs.Common.{◌≡◌, ◌-◌, ◌≤◌, length, map, take}
use Rattle.std.specs.Prelude.{slice_index}
use Rattle.std.specs.List.{filter}
use Rattle.tick_set.specs.Ticks.{between}
use Rattle.plane_index.specs.Index.{fresh_at}
use Rattle.plane_index.proofs.finding.gather.Given as goal

abbrev pub invariant-places : goal.invariant-places
invariant-places l = record {
  up_to : l.place ≤ length l.fn.ids;
  few : l.count ≤ l.place;
  room : length l.found ≡ length l.fn.found;
  found : take l.count l.found ≡ map (slice_index l.fn.ids) (filter (fresh_at l.fn.marks) (between 0 l.place));
}

abbrev pub decreases-places : goal.decreases-places
decreases-places l = length l.fn.ids - l.place
