use Rattle.std.proofs.Common.{refl}
use Rattle.tick_set.specs.Ticks.{all_in, between, listed, some_in}
use Rattle.line_meaning.proofs.examples.blurred_are_answered.Goals as goal

pub returns : goal.returns
unfolding all_in between listed some_in
returns c = record {
  surely_inside = refl;
  possibly_inside = refl;
  less_surely = refl;
  possibly_near = refl;
  surely_near = refl;
  from_now_on = refl;
  surely_in_time = refl;
  possibly_in_time = refl;
  lines_of_must = refl;
  lines_of_may = refl;
  looks = refl;
}
