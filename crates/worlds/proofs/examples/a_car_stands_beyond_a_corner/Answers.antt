use Rattle.std.proofs.Common.{refl}
use Rattle.tick_set.specs.Ticks.{all_in, between, listed, some_in}
use Rattle.worlds.proofs.examples.a_car_stands_beyond_a_corner.Goals as goal

pub returns : goal.returns
unfolding all_in between listed some_in
returns c = record {
  is_not_inside = refl;
  as_if_possible = refl;
  not_surely = refl;
}
