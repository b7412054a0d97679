use Rattle.std.proofs.Common.{arith}
use Rattle.interval_set.proofs.MergeLemmas.{earliest_taken, earliest_kept, none_kept}
use Rattle.interval_set.proofs.merge.earliest.Goals as goal

pub returns-then-t-s-clause-least : goal.returns-then-t-s-clause-least
returns-then-t-s-clause-least c = (
  earliest_kept _ _ _ _ c.requires.first c.in-Some-Some.ensures.cases.0 (omega arith),
  earliest_taken _ _ _ c.requires.second c.in-Some-Some.ensures'.cases.0,
)

pub returns-else-t-s-clause-least : goal.returns-else-t-s-clause-least
returns-else-t-s-clause-least c = (
  earliest_taken _ _ _ c.requires.first c.in-Some-Some.ensures.cases.0,
  earliest_kept _ _ _ _ c.requires.second c.in-Some-Some.ensures'.cases.0 c.if-t-s.false,
)

pub returns-in-Some-None-clause-least : goal.returns-in-Some-None-clause-least
returns-in-Some-None-clause-least c = (
  earliest_taken _ _ _ c.requires.first c.in-Some-None.ensures.cases.0,
  none_kept _ _ c.in-Some-None.ensures'.cases,
)

pub returns-in-None-Some-clause-least : goal.returns-in-None-Some-clause-least
returns-in-None-Some-clause-least c = (
  none_kept _ _ c.in-None-Some.ensures.cases,
  earliest_taken _ _ _ c.requires.second c.in-None-Some.ensures'.cases.0,
)
