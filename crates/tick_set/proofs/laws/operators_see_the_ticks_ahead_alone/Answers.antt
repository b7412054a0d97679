use Rattle.tick_set.proofs.CallerLemmas.{next_same, until_same, until_within_same, until_after_same, eventually_same, eventually_within_same, eventually_after_same, always_same, always_for_same}
use Rattle.tick_set.proofs.laws.operators_see_the_ticks_ahead_alone.Goals as goal

pub returns : goal.returns
returns c = record {
  next = next_same;
  until = until_same;
  until_within = until_within_same;
  until_after = until_after_same;
  eventually = eventually_same;
  eventually_within = eventually_within_same;
  eventually_after = eventually_after_same;
  always = always_same;
  always_for = always_for_same;
}
