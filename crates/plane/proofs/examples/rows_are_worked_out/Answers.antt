use Rattle.std.proofs.Common.{refl}
use Rattle.tick_set.specs.Ticks.{between, listed}
use Rattle.plane.proofs.examples.rows_are_worked_out.Goals as goal

pub returns : goal.returns
unfolding between listed
returns c = record {
  first_alone = refl;
  both = refl;
  wrong_order = refl;
  twice = refl;
}
