use Rattle.std.proofs.Common.{ap, rules, sym, ◌∙◌}
use Rattle.std.proofs.lemmas.List.Sorted.{answers_always}
use Rattle.relation.specs.declared.row.Row.{Row}
use Rattle.relation.proofs.ReadLemmas.{read_none, read_some, read_ticks}
use Rattle.relation.proofs.table.Relation.row.Goals as goal

pub returns-in-Ok-clause-ticks : goal.returns-in-Ok-clause-ticks
returns-in-Ok-clause-ticks g c = λ t.
    ap (λ (r : Row g.row.S.Denot). g.S.TickSet.member r.set t) (sym c.index-rows-at.is)
    ∙ read_ticks g.S.TickSet.member c.args.self.now c.rows-rows.result.now c.args.key.now c.rows-rows.ensures.value c.rows-rows.ensures.ordered
    c.in-Ok.at c.index-rows-at.result c.in-Ok.ensures.bound c.index-rows-at.is
    (c.in-Ok.ensures.position (λ (r : Row g.row.S.Denot). r.key) (answers_always _ _ _ (λ f a r h called. search rules))) t

pub returns-in-Ok-clause-some : goal.returns-in-Ok-clause-some
returns-in-Ok-clause-some g c =
    read_some g.S.TickSet.member c.args.self.now c.rows-rows.result.now c.args.key.now c.rows-rows.ensures.value c.rows-rows.ensures.ordered
    c.in-Ok.at c.index-rows-at.result c.in-Ok.ensures.bound c.index-rows-at.is
    (c.in-Ok.ensures.position (λ (r : Row g.row.S.Denot). r.key) (answers_always _ _ _ (λ f a r h called. search rules)))

pub returns-in-Err-clause-none : goal.returns-in-Err-clause-none
returns-in-Err-clause-none g c =
    read_none g.S.TickSet.member c.args.self.now c.rows-rows.result.now c.args.key.now c.rows-rows.ensures.value c.rows-rows.ensures.ordered
    c.in-Err.field-0 c.in-Err.ensures.bound
    (c.in-Err.ensures.position (λ (r : Row g.row.S.Denot). r.key) (answers_always _ _ _ (λ f a r h called. search rules)))
