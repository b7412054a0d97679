use Rattle.std.proofs.Common.{refl}
use Rattle.tick_set.specs.Ticks.{all_in, between, listed, some_in}
use Rattle.line_meaning.proofs.examples.asks_are_answered.Goals as goal

pub returns : goal.returns
unfolding all_in between listed some_in
returns c = record {
  through_a_region = refl;
  from_now_on = refl;
  by_the_targets = refl;
  line_of_later = refl;
  line_of_now = refl;
  line_of_past = refl;
  looks = refl;
}
