use Rattle.std.proofs.Common.{refl}
use Rattle.meaning.proofs.examples.reaches_are_worked_out.Goals as goal

pub returns : goal.returns
returns c = record {
  comparison = refl;
  region = refl;
  no_region = refl;
  distance = refl;
  circle = refl;
  constant = refl;
  negation = refl;
  next = refl;
  next_but_one = refl;
  eventually_within = refl;
  always_for = refl;
  until_within = refl;
  nested = refl;
  until_of_parts = refl;
  greater_of_two = refl;
  either_of_two = refl;
  assignment = refl;
  eventually = refl;
  always = refl;
  until = refl;
  eventually_after = refl;
  until_after = refl;
  none_of_two = refl;
  none_within = refl;
  past_the_largest_number = refl;
}
