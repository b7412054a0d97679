use Rattle.std.proofs.Common.{refl}
use Rattle.tick_set.specs.Operators.{until_in}
use Rattle.tick_set.specs.Ticks.{all_in, between, listed, some_in}
use Rattle.meaning.proofs.examples.a_doubled_speed_is_seen_late.Goals as goal

pub returns : goal.returns
unfolding all_in between listed some_in until_in
returns c = record {
  not_before = refl;
  no_change_at_first = refl;
  gains_the_past = refl;
  of_a_kept_one = refl;
  of_a_watched_one = refl;
  unseen_by_a_watched_one = refl;
  planned_by_legs = refl;
}
