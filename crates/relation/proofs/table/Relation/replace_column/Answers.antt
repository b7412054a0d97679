use Rattle.std.proofs.Common.{◌∙◌, ap, List, ℕ, subst, sym}
use Rattle.relation.specs.Frames.{IsIn}
use Rattle.relation.specs.Key.{has_id}
use Rattle.relation.specs.Rows.{table_has}
use Rattle.relation.specs.Walk.{covers}
use Rattle.relation.proofs.ColumnLemmas.{replaced, single_there}
use Rattle.relation.proofs.UnionLemmas.{covers_itself}
use Rattle.relation.proofs.table.Relation.replace_column.Goals as goal

pub walked-requires-clause-left : goal.walked-requires-clause-left
walked-requires-clause-left g c = (λ i. covers (c.vars.ensures.value i) (c.in_ok-kept.ensures.head.vars i)) ∙ covers_itself c.args.self.now.vars

pub walked-requires-clause-right : goal.walked-requires-clause-right
walked-requires-clause-right g c = (λ i. covers (c.vars.ensures.value i) ((c.in_ok-column.ensures.head.vars ∙ c.requires.vars) i)) ∙ covers_itself c.args.self.now.vars

pub returns-clause-ticks : goal.returns-clause-ticks
returns-clause-ticks g c = λ b is_in t.
    let member = g.S.TickSet.member in
    replaced member c.args.self.now c.args.part.now c.args.var c.args.id c.rows.ensures.ordered c.requires.vars
    (single_there c.args.self.now.domains c.args.part.now.domains c.vars.result.now c.args.var c.args.id c.requires.domains c.vars.ensures.known
    (ap (λ (vs : List ℕ). has_id vs c.args.var) c.vars.ensures.value ∙ c.requires.owned))
    c.requires.owned b t (table_has member c.in_ok-kept.kept b t) (table_has member c.in_ok-column.column b t) (table_has member c.in_ok-made.made b t)
    (c.in_ok-kept.ensures.ticks b t) (c.in_ok-column.ensures.ticks b t)
    (c.in_ok-made.ensures.ticks b (subst (λ (d : List (List ℕ)). IsIn d b) (sym c.in_ok-kept.ensures.head.domains) is_in) t)
