use Rattle.std.proofs.Common.{ap, ◌∙◌}
use Rattle.tick_set.specs.Ticks.{between}
use Rattle.answers.proofs.NarrowLemmas.{upto, upto_distinct, upto_known}
use Rattle.answers.proofs.evaluating.no_rows.Goals as goal

pub empty-requires-clause-known : goal.empty-requires-clause-known
empty-requires-clause-known c = upto_known c.args.d.now c.len.result c.len.ensures.count c.len.ensures.few

pub empty-requires-clause-distinct : goal.empty-requires-clause-distinct
empty-requires-clause-distinct c = upto_distinct c.len.result c.len.ensures.few

pub returns-clause-vars : goal.returns-clause-vars
returns-clause-vars c = ap (λ r. r.vars) c.empty.ensures ∙ upto c.len.result c.len.ensures.few ∙ ap (between 0) c.len.ensures.count
