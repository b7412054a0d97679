use Rattle.std.proofs.Common.{◌∙◌}
use Rattle.relation.specs.Walk.{covers}
use Rattle.relation.proofs.UnionLemmas.{covers_itself}
use Rattle.relation.proofs.table.Relation.complement.Goals as goal

pub walked-requires-clause-left : goal.walked-requires-clause-left
walked-requires-clause-left g c = (λ i. covers (c.vars.ensures.value i) c.args.self.now.vars) ∙ covers_itself c.args.self.now.vars

pub walked-requires-clause-right : goal.walked-requires-clause-right
walked-requires-clause-right g c = (λ i. covers (c.vars.ensures.value i) c.args.self.now.vars) ∙ covers_itself c.args.self.now.vars
