use Rattle.live_queries.specs.Untouched.{or_untouched}
use Rattle.live_queries.proofs.live.add_evaluated.Goals as goal

pub returns-clause-added : goal.returns-clause-added
returns-clause-added g c = record {
  added = or_untouched c.in_ok-renewal.renewal;
  ready = c.in_ok-renewal.ensures.ready;
  fresh = c.in_ok-renewal.ensures.fresh;
  list = c.in_ok-add.ensures.added;
}
