use Rattle.std.proofs.Common.{refl}
use Rattle.tick_set.specs.Ticks.{between, listed}
use Rattle.plane.proofs.examples.boxes_are_worked_out.Goals as goal

pub returns : goal.returns
unfolding between listed
returns c = record {
  strip_of_0 = refl;
  last_of_a_strip = refl;
  first_of_a_strip = refl;
  below_0 = refl;
  lowest_of_it = refl;
  next_below = refl;
  rises = refl;
  rises_on = refl;
  stands = refl;
  strips = refl;
  turns = refl;
  written_within = refl;
  written_at = refl;
  removed = refl;
  later_slice = refl;
}
