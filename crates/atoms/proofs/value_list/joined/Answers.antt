use Rattle.std.proofs.Common.{refl, arith}
use Rattle.std.proofs.lemmas.Bool.Decides.{nat_tests}
use Rattle.atoms.proofs.value_list.joined.Goals as goal

pub returns-then-are_equal-clause-joined : goal.returns-then-are_equal-clause-joined
returns-then-are_equal-clause-joined c = record {
  last = c.in_ok-last.last.now;
  is = grind (arith, c.last.ensures.value);
  on = grind (arith, nat_tests, c.are_equal.ensures);
  begins = refl;
  ends = refl;
  value = refl;
}
