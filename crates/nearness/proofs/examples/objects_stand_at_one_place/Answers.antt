use Rattle.std.proofs.Common.{refl}
use Rattle.tick_set.specs.Ticks.{between, listed}
use Rattle.nearness.proofs.examples.objects_stand_at_one_place.Goals as goal

pub returns : goal.returns
unfolding between listed
returns c = record {
  neither_shown_nor_counted = refl;
  of_the_first = refl;
}
