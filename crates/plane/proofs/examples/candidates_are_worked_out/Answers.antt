use Rattle.std.proofs.Common.{refl}
use Rattle.tick_set.specs.Ticks.{between, listed}
use Rattle.plane.proofs.examples.candidates_are_worked_out.Goals as goal

pub returns : goal.returns
unfolding between listed
returns c = record {
  first_alone = refl;
  both = refl;
  wrong_order = refl;
  at_another_tick = refl;
  in_another_slice = refl;
  in_a_slice_that_is_met = refl;
  by_strips = refl;
}
