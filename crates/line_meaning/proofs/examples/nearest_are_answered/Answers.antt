use Rattle.std.proofs.Common.{refl}
use Rattle.tick_set.specs.Ticks.{all_in, between, listed, some_in}
use Rattle.line_meaning.proofs.examples.nearest_are_answered.Goals as goal

pub returns : goal.returns
unfolding all_in between listed some_in
returns c = record {
  ties_go_to_the_first = refl;
  from_now_on = refl;
  more_than_there_are = refl;
  not_itself = refl;
  of_an_absent_object = refl;
  lines = refl;
  looks = refl;
}
