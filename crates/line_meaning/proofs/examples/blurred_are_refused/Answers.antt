use Rattle.std.proofs.Common.{refl}
use Rattle.line_meaning.proofs.examples.blurred_are_refused.Goals as goal

pub returns : goal.returns
returns c = record {
  unknown_region = refl;
  of_another_kind = refl;
  with_not = refl;
  with_circle = refl;
  past_its_bound = refl;
  not_before_bounds = refl;
  longest = refl;
  one_longer = refl;
  past_the_clock = refl;
  to_the_last_tick = refl;
  most_bindings = refl;
  too_many_bindings = refl;
}
