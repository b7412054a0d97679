use Rattle.std.proofs.Common.{refl}
use Rattle.line_meaning.proofs.examples.nearest_are_refused.Goals as goal

pub returns : goal.returns
returns c = record {
  no_such_object = refl;
  no_such_class = refl;
  object_without_positions = refl;
  class_without_positions = refl;
  longest = refl;
  one_longer = refl;
  past_the_clock = refl;
  to_the_last_tick = refl;
  too_many_pairs = refl;
  absent_is_not_refused = refl;
}
