use Rattle.std.proofs.Common.{refl}
use Rattle.tick_set.specs.Ticks.{all_in, between, listed, some_in}
use Rattle.line_meaning.proofs.examples.registered_queries_are_answered.Goals as goal

pub returns : goal.returns
unfolding all_in between listed some_in
returns c = record {
  registered_is = refl;
  dropped = refl;
  shown = refl;
  listed = refl;
  nothing_inside = refl;
  gains = refl;
  gains_and_loses = refl;
  the_same_again = refl;
  enters = refl;
  leaves_past_the_expiry = refl;
  an_insert = refl;
  removes = refl;
  looks = refl;
}
