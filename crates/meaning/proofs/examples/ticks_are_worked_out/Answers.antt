use Rattle.std.proofs.Common.{refl}
use Rattle.tick_set.specs.Operators.{until_in}
use Rattle.tick_set.specs.Ticks.{all_in, between, listed, some_in}
use Rattle.meaning.proofs.examples.ticks_are_worked_out.Goals as goal

pub returns : goal.returns
unfolding all_in between listed some_in until_in
returns c = record {
  led_by_the_clock = refl;
  led_by_the_fuel = refl;
  always_for = refl;
  next_but_for_the_last = refl;
  at_once = refl;
  none_next = refl;
  eventually_of_the_clock = refl;
  always_of_the_clock = refl;
  after_so_many = refl;
  within_so_many = refl;
  after_at_least = refl;
}
