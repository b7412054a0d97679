use Rattle.std.proofs.Common.{refl}
use Rattle.tick_set.specs.Operators.{until_in}
use Rattle.tick_set.specs.Ticks.{all_in, between, listed, some_in}
use Rattle.meaning.proofs.examples.values_are_worked_out.Goals as goal

pub returns : goal.returns
unfolding all_in between listed some_in until_in
returns c = record {
  ten_further_on = refl;
  one_within_another = refl;
  by_the_slope = refl;
  by_the_last_value = refl;
  by_the_last_update = refl;
  a_thousand_a_tick = refl;
  by_a_number_that_stays = refl;
  multiplied = refl;
  taken_away = refl;
  by_its_text = refl;
  by_another_text = refl;
  no_text_is_below = refl;
  no_text_is_a_number = refl;
}
