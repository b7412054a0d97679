use Rattle.std.proofs.Common.{None, false}
use Rattle.replica.proofs.FeedLemmas.{bad_after}
use Rattle.replica.proofs.laws.a_feed_is_bad_by_its_first_bad_line.Goals as goal

pub returns : goal.returns
returns c name lines = bad_after name None false 0 lines
