use Rattle.std.proofs.Common.{refl}
use Rattle.tick_set.specs.Ticks.{all_in, between, listed, some_in}
use Rattle.worlds.proofs.examples.a_car_jumps.Goals as goal

pub returns : goal.returns
unfolding all_in between listed some_in
returns c = record {
  far_enough = refl;
  too_far = refl;
  is_inside = refl;
  is_outside = refl;
  as_ever_in_a_term = refl;
  unmoved = refl;
}
