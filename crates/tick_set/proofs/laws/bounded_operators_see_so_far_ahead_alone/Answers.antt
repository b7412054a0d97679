use Rattle.tick_set.proofs.CallerLemmas.{next_seen, until_within_seen, eventually_within_seen, always_for_seen}
use Rattle.tick_set.proofs.laws.bounded_operators_see_so_far_ahead_alone.Goals as goal

pub returns : goal.returns
returns c = record {
  next = next_seen;
  until_within = until_within_seen;
  eventually_within = eventually_within_seen;
  always_for = always_for_seen;
}
