use Rattle.std.proofs.Common.{refl}
use Rattle.tick_set.specs.Operators.{until_in}
use Rattle.tick_set.specs.Ticks.{all_in, between, listed, some_in}
use Rattle.meaning.proofs.examples.a_removed_car_keeps_its_past.Goals as goal

pub returns : goal.returns
unfolding all_in between listed some_in until_in
returns c = record {
  at_first = refl;
  joined_at_the_clock = refl;
  loses = refl;
  past_alone = refl;
  gains = refl;
  both_stretches = refl;
}
