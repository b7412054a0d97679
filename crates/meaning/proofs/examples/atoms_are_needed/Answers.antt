use Rattle.std.proofs.Common.{refl}
use Rattle.meaning.proofs.examples.atoms_are_needed.Goals as goal

pub returns : goal.returns
returns c = record {
  of_an_atom = refl;
  of_another_atom = refl;
  of_either_side = refl;
  of_the_shorter_side = refl;
  of_both_sides = refl;
  of_one_side_alone = refl;
  of_no_negation = refl;
  of_a_goal = refl;
  of_a_guard = refl;
  of_a_part = refl;
  of_nothing_that_holds = refl;
}
