use Rattle.std.proofs.Common.{subst, arith}
use Rattle.std.proofs.lemmas.Bool.{not-false, not-true}
use Rattle.live_queries.specs.Missed.{IsClearOf}
use Rattle.live_queries.proofs.MissedLemmas.{clear_of_lone}
use Rattle.live_queries.proofs.query.LiveQuery.has_clear_row.Goals as goal

pub returns : goal.returns
returns c clear =
    subst (IsClearOf c.args.object.now) c.self.view_is
    (clear_of_lone c.args.object.now _ c.in-Some.lone (c.self.invariant.4 c.in-Some.lone c.in-Some.is)
    (c.has_all.ensures.class (grind (arith, not-false, not-true, c.if-not-has_all.false)))
    (c.has_all.ensures.count (grind (arith, not-false, not-true, c.if-not-has_all.false))) (c.is_clear.ensures clear))
