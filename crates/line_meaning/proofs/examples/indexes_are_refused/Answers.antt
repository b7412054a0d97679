use Rattle.std.proofs.Common.{refl}
use Rattle.line_meaning.proofs.examples.indexes_are_refused.Goals as goal

pub returns : goal.returns
returns c = record {
  no_class = refl;
  no_attribute = refl;
  taken = refl;
  taken_until_its_last = refl;
  free_after_it = refl;
  no_function = refl;
  ends_with_the_clock = refl;
  past_the_clock = refl;
  one_too_many = refl;
  of_no_index = refl;
  to_its_last_tick = refl;
  past_it = refl;
  of_an_ended_one = refl;
}
