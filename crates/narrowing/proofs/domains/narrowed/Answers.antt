use Rattle.formula.specs.Tree.{resolved_view}
use Rattle.narrowing.proofs.ShareLemmas.{found_suffice}
use Rattle.narrowing.proofs.domains.narrowed.Goals as goal

pub returns : goal.returns
returns c =
    found_suffice c.worlds_lie_between.ensures.between c.args.store.now c.args.regions.now (resolved_view c.args.q.now) c.args.w.lo c.args.w.hi c.args.domains.now
    c.narrowed_within.result c.narrowed_within.ensures
