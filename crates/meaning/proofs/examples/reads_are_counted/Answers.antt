use Rattle.std.proofs.Common.{refl}
use Rattle.tick_set.specs.Operators.{until_in}
use Rattle.tick_set.specs.Ticks.{all_in, between, listed, some_in}
use Rattle.meaning.proofs.examples.reads_are_counted.Goals as goal

pub returns : goal.returns
unfolding all_in between listed some_in until_in
returns c = record {
  of_one = refl;
  of_two = refl;
  of_one_twice = refl;
  of_the_clock = refl;
  of_parts = refl;
  of_an_assignment = refl;
  of_a_change = refl;
  of_another_class = refl;
  of_a_write = refl;
  past_an_expiry = refl;
}
