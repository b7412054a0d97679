use Rattle.std.proofs.Common.{refl}
use Rattle.tick_set.specs.Ticks.{between, listed}
use Rattle.nearness.proofs.examples.objects_come_and_go.Goals as goal

pub returns : goal.returns
unfolding between listed
returns c = record {
  absent_for_a_while = refl;
  second = refl;
  from_an_absent_one = refl;
}
