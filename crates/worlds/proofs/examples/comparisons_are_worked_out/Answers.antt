use Rattle.std.proofs.Common.{refl}
use Rattle.worlds.proofs.examples.comparisons_are_worked_out.Goals as goal

pub returns : goal.returns
returns c = record {
  below = refl;
  at_the_least = refl;
  between = refl;
  at_the_greatest = refl;
  above = refl;
  exactly = refl;
  above_a_negative = refl;
  not_below_a_negative = refl;
}
