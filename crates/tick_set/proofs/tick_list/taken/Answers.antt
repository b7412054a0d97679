use Rattle.std.proofs.Common.{arith}
use Rattle.std.proofs.lemmas.Grind.{common_steps}
use Rattle.tick_set.proofs.TickListLemmas.{has_behind, has_not_taken}
use Rattle.tick_set.proofs.tick_list.taken.Goals as goal

pub returns-then-u-t-clause-others : goal.returns-then-u-t-clause-others
returns-then-u-t-clause-others c = λ u. grind (arith, common_steps, has_behind c.args.ticks.now c.in-Some.later.now c.args.t u)

pub returns-else-u-t-clause-found : goal.returns-else-u-t-clause-found
returns-else-u-t-clause-found c = (has_not_taken _ _ _ _ c.in-Some.ensures.cases.0 c.if-u-t.false c.requires).0

pub returns-else-u-t-clause-others : goal.returns-else-u-t-clause-others
returns-else-u-t-clause-others c = (has_not_taken _ _ _ _ c.in-Some.ensures.cases.0 c.if-u-t.false c.requires).1
