use Rattle.std.proofs.Common.{refl}
use Rattle.tick_set.specs.Ticks.{between, listed}
use Rattle.nearness.proofs.examples.an_object_passes_by.Goals as goal

pub returns : goal.returns
unfolding between listed
returns c = record {
  ties_go_to_the_first = refl;
  both = refl;
  more_than_there_are = refl;
  of_its_own_class = refl;
  no_other = refl;
  no_such_class = refl;
}
