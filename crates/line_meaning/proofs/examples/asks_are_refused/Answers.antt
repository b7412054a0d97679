use Rattle.std.proofs.Common.{refl}
use Rattle.line_meaning.proofs.examples.asks_are_refused.Goals as goal

pub returns : goal.returns
returns c = record {
  unknown_region = refl;
  of_another_kind = refl;
  longest = refl;
  one_longer = refl;
  past_the_clock = refl;
  longest_assigned = refl;
  one_longer_assigned = refl;
  circle_of_two = refl;
  longest_circle = refl;
  one_longer_circle = refl;
  least_that_applies = refl;
  most_bindings = refl;
  too_many_bindings = refl;
}
