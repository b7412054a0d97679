use Rattle.std.proofs.Common.{refl}
use Rattle.tick_set.specs.Ticks.{all_in, between, listed, some_in}
use Rattle.worlds.proofs.examples.a_car_drives_through.Goals as goal

pub returns : goal.returns
unfolding all_in between listed some_in
returns c = record {
  surely_inside = refl;
  possibly_inside = refl;
  surely_outside = refl;
  possibly_outside = refl;
  too_wide = refl;
  surely_later = refl;
  without_error = refl;
  not_surely = refl;
  no_such_region = refl;
  removed = refl;
  possibly_removed = refl;
}
