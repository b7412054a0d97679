use Rattle.live_queries.specs.Untouched.{untouched}
use Rattle.live_queries.proofs.UntouchedLemmas.{untouched_ready}
use Rattle.live_queries.proofs.live.add_renewal.Goals as goal

pub returns-then-is_missed-clause-added : goal.returns-then-is_missed-clause-added
returns-then-is_missed-clause-added g c = record {
  added = untouched;
  ready = untouched_ready c.args.write.now.object.now.class c.args.query.now;
  fresh = c.is_missed.ensures.fresh c.if-is_missed.true;
  list = c.pass.ensures;
}
