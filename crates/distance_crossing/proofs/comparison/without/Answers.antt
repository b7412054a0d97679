use Rattle.distance_crossing.proofs.RunLists.{ahead_inside, inside_one, without_pair}
use Rattle.distance_crossing.proofs.comparison.without.Goals as goal

pub gap-first-requires-clause-ahead : goal.gap-first-requires-clause-ahead
gap-first-requires-clause-ahead c =
    let whole = c.in-Some.whole in
    ahead_inside whole.lo whole.hi c.args.inner (inside_one c.args.outer c.args.inner whole c.in-Some.is c.requires)

pub returns-else-is_none : goal.returns-else-is_none
returns-else-is_none c =
    without_pair c.args.outer c.args.inner c.gap-first.result.0 c.stretch-second.result c.in-Some.whole c.gap-first.result.1 c.in-Some.is c.requires
    c.gap-first.ensures.next c.if-is_none.ensures c.gap-first.ensures.runs c.stretch-second.ensures.ticks
