use Rattle.std.proofs.Common.{refl}
use Rattle.tick_set.specs.Operators.{until_in}
use Rattle.tick_set.specs.Ticks.{all_in, between, listed, some_in}
use Rattle.meaning.proofs.examples.registered_queries_change.Goals as goal

pub returns : goal.returns
unfolding all_in between listed some_in until_in
returns c = record {
  goes_on_with_its_leg = refl;
  begins_to_move = refl;
  moves_faster = refl;
  a_new_object = refl;
  enters = refl;
  stays = refl;
  leaves = refl;
  passes_through = refl;
  expires = refl;
  from_now_on = refl;
  watched_no_more = refl;
}
