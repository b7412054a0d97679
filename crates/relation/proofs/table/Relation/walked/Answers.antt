use Rattle.std.proofs.Common.{◌∙◌, []}
use Rattle.relation.specs.Rows.{table}
use Rattle.relation.proofs.OperatorLemmas.{walked_has}
use Rattle.relation.proofs.table.Relation.walked.Goals as goal

pub returns-clause-ticks : goal.returns-clause-ticks
returns-clause-ticks g c =
    walked_has g.S.TickSet.member c.args.operation c.args.vars.now c.part.result c.part-2.result c.args.self.now c.args.other.now c.empty-made.result c.new.result
    (c.empty-made.ensures ∙ (λ i. table c.args.vars.now (c.domains.ensures i) (c.window.ensures.0 i) (c.window.ensures.1 i) [])) c.new.ensures
    c.walk.new.made c.in_ok-walk.ensures c.part.ensures.same c.part-2.ensures.same
