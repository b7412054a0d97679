use Rattle.std.proofs.Common.{refl}
use Rattle.tick_set.specs.Operators.{until_in}
use Rattle.tick_set.specs.Ticks.{all_in, between, listed, some_in}
use Rattle.meaning.proofs.examples.places_are_worked_out.Goals as goal

pub returns : goal.returns
unfolding all_in between listed some_in until_in
returns c = record {
  drives_through = refl;
  is_outside_else = refl;
  halts_within = refl;
  jumps_over = refl;
  is_not_outside_once_removed = refl;
  no_such_region = refl;
  comes_near = refl;
  not_near_enough = refl;
  is_not_so_far = refl;
  farther_than_a_negative = refl;
  never_below_a_negative = refl;
  targets_in_their_order = refl;
  fits_the_circle = refl;
  too_small_a_circle = refl;
  one_object_twice = refl;
}
