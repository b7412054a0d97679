use Rattle.until_merge.proofs.UntilLemmas.{start_in_first, start_before_first}
use Rattle.until_merge.proofs.until.start.Goals as goal

pub returns-then-g-goal : goal.returns-then-g-goal
returns-then-g-goal c = rw (c.max.ensures, c.saturating_sub.ensures) (start_in_first _ _ _ _ c.in-Some.ensures.value c.requires.normal c.requires.ends c.if-g-goal.true)

pub returns-else-g-goal : goal.returns-else-g-goal
returns-else-g-goal c = start_before_first _ _ _ _ c.in-Some.ensures.value c.requires.normal c.if-g-goal.false
