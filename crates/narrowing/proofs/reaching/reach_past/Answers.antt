use Rattle.std.proofs.Common.{pos, neg_ℤ}
use Rattle.narrowing.proofs.ReachLemmas.{reach_found}
use Rattle.narrowing.proofs.reaching.reach_past.Goals as goal

pub returns : goal.returns
returns c =
    reach_found c.args.error c.args.direction c.in_ok-before.before c.in_ok-after.after c.args.polygon.now c.reach_between.result
    (c.in_ok-before.ensures (neg_ℤ (pos c.args.error))) (c.in_ok-after.ensures (neg_ℤ (pos c.args.error))) c.reach_between.ensures
