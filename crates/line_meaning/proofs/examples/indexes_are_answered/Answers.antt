use Rattle.std.proofs.Common.{refl}
use Rattle.tick_set.specs.Ticks.{all_in, between, listed, some_in}
use Rattle.line_meaning.proofs.examples.indexes_are_answered.Goals as goal

pub returns : goal.returns
unfolding all_in between listed some_in
returns c = record {
  says_ok = refl;
  made = refl;
  rises_through = refl;
  looks_at_both = refl;
  seen = refl;
  looks_at_one = refl;
  both = refl;
  looks_at_it_anew = refl;
  wrong_order = refl;
  replaced = refl;
  makes_no_looks = refl;
}
