use Rattle.std.proofs.Common.{◌∙◌, ap, arith, List, ℕ, []}
use Rattle.relation.specs.Projection.{variable_place}
use Rattle.relation.specs.Rows.{table}
use Rattle.relation.proofs.ColumnLemmas.{keeping_above, keeping_all, keeping_inside, keeping_lies, keeping_more}
use Rattle.relation.proofs.table.Relation.without.Goals as goal

pub put_unless-requires-clause-above : goal.put_unless-requires-clause-above
put_unless-requires-clause-above g c =
    keeping_above g.S.TickSet.member c.place_of-place.result c.args.id c.args.self.now c.empty-made.result c.rows-row-items.result.now c.window.result.lo c.window.result.hi
    c.rows-row-items.ensures.value (c.empty-made.ensures ∙ (λ i. table (c.vars-2.ensures.value i) (c.domains.ensures i) c.window.result.lo c.window.result.hi [])) c.window.ensures.0 c.window.ensures.1
    c.rows-row-items.ensures.ordered c.rows.row-index c.rows.made c.row-item.result (omega (arith, c.rows-test.true)) c.row-item.is c.rows.invariant

pub put_unless-requires-clause-inside : goal.put_unless-requires-clause-inside
put_unless-requires-clause-inside g c =
    keeping_inside g.S.TickSet.member c.place_of-place.result c.args.id c.args.self.now c.empty-made.result c.rows-row-items.result.now c.window.result.lo c.window.result.hi
    c.rows-row-items.ensures.value (c.empty-made.ensures ∙ (λ i. table (c.vars-2.ensures.value i) (c.domains.ensures i) c.window.result.lo c.window.result.hi [])) c.window.ensures.0 c.window.ensures.1
    c.rows-row-items.ensures.ordered c.rows.row-index c.rows.made c.row-item.result (omega (arith, c.rows-test.true)) c.row-item.is c.rows.invariant

pub put_unless-requires-clause-lies : goal.put_unless-requires-clause-lies
put_unless-requires-clause-lies g c =
    keeping_lies g.S.TickSet.member c.place_of-place.result c.args.id c.args.self.now c.empty-made.result c.rows-row-items.result.now c.window.result.lo c.window.result.hi
    c.rows-row-items.ensures.value (c.empty-made.ensures ∙ (λ i. table (c.vars-2.ensures.value i) (c.domains.ensures i) c.window.result.lo c.window.result.hi [])) c.window.ensures.0 c.window.ensures.1
    c.rows-row-items.ensures.ordered c.rows.row-index c.rows.made c.row-item.result (omega (arith, c.rows-test.true)) c.row-item.is c.rows.invariant

pub rows-preserved : goal.rows-preserved
rows-preserved g c =
    keeping_more g.S.TickSet.member c.place_of-place.result c.args.id c.args.self.now c.empty-made.result c.rows-row-items.result.now c.window.result.lo c.window.result.hi
    c.rows-row-items.ensures.value (c.empty-made.ensures ∙ (λ i. table (c.vars-2.ensures.value i) (c.domains.ensures i) c.window.result.lo c.window.result.hi [])) c.window.ensures.0 c.window.ensures.1
    c.rows-row-items.ensures.ordered c.rows.row-index c.rows.made c.row-item.result (omega (arith, c.rows-test.true)) c.row-item.is c.rows.invariant
    c.put_unless.new.made c.in_ok-put_unless.ensures.head c.in_ok-put_unless.ensures.ticks c.in_ok-put_unless.ensures.keys

pub returns-clause-ticks : goal.returns-clause-ticks
returns-clause-ticks g c =
    keeping_all g.S.TickSet.member c.place_of-place.result c.args.id c.args.self.now c.empty-made.result c.rows-row-items.result.now c.window.result.lo c.window.result.hi
    c.rows-row-items.ensures.value (c.empty-made.ensures ∙ (λ i. table (c.vars-2.ensures.value i) (c.domains.ensures i) c.window.result.lo c.window.result.hi [])) c.window.ensures.0 c.window.ensures.1
    c.args.var c.rows.row-index c.rows.made (c.place_of-place.ensures ∙ ap (λ (vs : List ℕ). variable_place vs c.args.var) c.vars.ensures.value) c.requires (omega (arith, c.rows-test.false)) c.rows.invariant
