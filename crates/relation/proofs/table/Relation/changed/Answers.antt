use Rattle.std.proofs.Common.{ap, arith, ◌∙◌}
use Rattle.relation.specs.Rows.{Table}
use Rattle.relation.proofs.ChangeLemmas.{changed_has, changing_above, changing_more, items_are, put_inside, row_is}
use Rattle.relation.proofs.table.Relation.changed.Goals as goal

pub apply-requires : goal.apply-requires
apply-requires g c =
    let vars = ap (λ (r : Table g.row.S.Denot). r.vars) c.empty-made.ensures ∙ c.vars.ensures.value in
    let are = items_are g.S.TickSet.member c.args.change c.args.self.now c.window-window.result.lo c.window-window.result.hi c.rows-row-items.result.now c.empty-made.result
    c.rows-row-items.ensures.value c.window-window.ensures.0 c.window-window.ensures.1 vars c.rows-row-items.ensures.ordered in
    let own = row_is g.S.TickSet.member c.args.change c.args.self.now.domains c.args.self.now.vars c.window-window.result.lo c.window-window.result.hi c.rows-row-items.result.now c.empty-made.result
    c.rows.row-index c.rows.made c.row-item.result are (omega (arith, c.rows-test.true)) c.row-item.is c.rows.invariant in
    own.lies

pub put-requires-clause-above : goal.put-requires-clause-above
put-requires-clause-above g c =
    let vars = ap (λ (r : Table g.row.S.Denot). r.vars) c.empty-made.ensures ∙ c.vars.ensures.value in
    let are = items_are g.S.TickSet.member c.args.change c.args.self.now c.window-window.result.lo c.window-window.result.hi c.rows-row-items.result.now c.empty-made.result
    c.rows-row-items.ensures.value c.window-window.ensures.0 c.window-window.ensures.1 vars c.rows-row-items.ensures.ordered in
    changing_above g.S.TickSet.member c.args.change c.args.self.now.domains c.args.self.now.vars c.window-window.result.lo c.window-window.result.hi c.rows-row-items.result.now c.empty-made.result
    c.rows.row-index c.rows.made c.row-item.result are (omega (arith, c.rows-test.true)) c.row-item.is c.rows.invariant

pub put-requires-clause-inside : goal.put-requires-clause-inside
put-requires-clause-inside g c =
    let vars = ap (λ (r : Table g.row.S.Denot). r.vars) c.empty-made.ensures ∙ c.vars.ensures.value in
    let are = items_are g.S.TickSet.member c.args.change c.args.self.now c.window-window.result.lo c.window-window.result.hi c.rows-row-items.result.now c.empty-made.result
    c.rows-row-items.ensures.value c.window-window.ensures.0 c.window-window.ensures.1 vars c.rows-row-items.ensures.ordered in
    let own = row_is g.S.TickSet.member c.args.change c.args.self.now.domains c.args.self.now.vars c.window-window.result.lo c.window-window.result.hi c.rows-row-items.result.now c.empty-made.result
    c.rows.row-index c.rows.made c.row-item.result are (omega (arith, c.rows-test.true)) c.row-item.is c.rows.invariant in
    put_inside g.S.TickSet.member c.args.change c.args.self.now c.window-window.result.lo c.window-window.result.hi c.rows-row-items.result.now c.empty-made.result
    c.rows-row-items.ensures.value c.window-window.ensures.0 c.window-window.ensures.1 vars
    c.rows.row-index c.rows.made c.args.domains.now c.row-item.result c.rows.invariant c.requires (ap (λ (r : Table g.row.S.Denot). r.domains) c.empty-made.ensures) own.inside

pub rows-preserved : goal.rows-preserved
rows-preserved g c =
    let vars = ap (λ (r : Table g.row.S.Denot). r.vars) c.empty-made.ensures ∙ c.vars.ensures.value in
    let are = items_are g.S.TickSet.member c.args.change c.args.self.now c.window-window.result.lo c.window-window.result.hi c.rows-row-items.result.now c.empty-made.result
    c.rows-row-items.ensures.value c.window-window.ensures.0 c.window-window.ensures.1 vars c.rows-row-items.ensures.ordered in
    changing_more g.S.TickSet.member c.args.change c.args.self.now.domains c.args.self.now.vars c.window-window.result.lo c.window-window.result.hi c.rows-row-items.result.now c.empty-made.result
    c.rows.row-index c.rows.made c.row-item.result are (omega (arith, c.rows-test.true)) c.row-item.is c.rows.invariant
    c.in_ok-set.set c.put.new.self c.in_ok-set.ensures.ticks c.in_ok-put.ensures.head c.in_ok-put.ensures.ticks c.in_ok-put.ensures.keys

pub returns-clause-ticks : goal.returns-clause-ticks
returns-clause-ticks g c =
    let vars = ap (λ (r : Table g.row.S.Denot). r.vars) c.empty-made.ensures ∙ c.vars.ensures.value in
    changed_has g.S.TickSet.member c.args.change c.args.self.now c.window-window.result.lo c.window-window.result.hi c.rows-row-items.result.now c.empty-made.result
    c.rows-row-items.ensures.value c.window-window.ensures.0 c.window-window.ensures.1 vars
    c.rows.row-index c.rows.made (omega (arith, c.rows-test.false)) c.rows.invariant
