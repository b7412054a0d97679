use Rattle.std.proofs.Common.{refl}
use Rattle.tick_set.specs.Ticks.{between, listed}
use Rattle.kept_rows.specs.Listing.{lines_between}
use Rattle.kept_rows.proofs.laws.small_rows_change.Goals as goal

pub returns : goal.returns
unfolding lines_between between listed
returns c = record {
  row = refl;
  other_tick = refl;
  page_that_is_not_made = refl;
  changed = refl;
  lost = refl;
  kept = refl;
  added = refl;
  joined = refl;
  answer = refl;
  each = refl;
  enters = refl;
  leaves = refl;
  stays = refl;
  expired = refl;
}
