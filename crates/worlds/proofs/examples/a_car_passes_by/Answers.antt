use Rattle.std.proofs.Common.{refl}
use Rattle.tick_set.specs.Ticks.{all_in, between, listed, some_in}
use Rattle.worlds.proofs.examples.a_car_passes_by.Goals as goal

pub returns : goal.returns
unfolding all_in between listed some_in
returns c = record {
  possibly_near = refl;
  not_surely_near = refl;
  surely_nearer_than_5 = refl;
  surely_not_at = refl;
  possibly_at = refl;
  not_possibly_at = refl;
  no_other = refl;
  never_apart = refl;
  as_ever_in_a_circle = refl;
}
