use Rattle.std.proofs.Common.{◌∙◌, ap, List, []}
use Rattle.formula_shape.specs.declared.limits.TheConstants.{OBJECT_LIMIT}
use Rattle.relation.specs.declared.entries.Entry.{Entry}
use Rattle.relation.specs.Entries.{entries_have}
use Rattle.relation.specs.Key.{are_known}
use Rattle.relation.specs.Rows.{Table, table}
use Rattle.relation.proofs.ProjectionLemmas.{before_none, entries_ready, few_within, known_among, projected_all, projected_some}
use Rattle.relation.proofs.table.Relation.project.Goals as goal

pub entries_over-requires-clause-few : goal.entries_over-requires-clause-few
entries_over-requires-clause-few g c =
    few_within c.args.vars.now c.args.self.now.vars c.vars-own.result.now OBJECT_LIMIT c.vars-own.ensures.value c.vars-own.ensures.few c.requires.distinct c.requires.among

pub empty-made-requires-clause-few : goal.empty-made-requires-clause-few
empty-made-requires-clause-few g c =
    few_within c.args.vars.now c.args.self.now.vars c.vars-own.result.now OBJECT_LIMIT c.vars-own.ensures.value c.vars-own.ensures.few c.requires.distinct c.requires.among

pub empty-made-requires-clause-known : goal.empty-made-requires-clause-known
empty-made-requires-clause-known g c =
    (λ i. are_known (c.domains.ensures i) c.args.vars.now)
    ∙ known_among c.args.self.now.domains c.args.self.now.vars c.args.vars.now c.rows-rows.ensures.ordered.known c.requires.among

pub put_groups-requires-clause-entries : goal.put_groups-requires-clause-entries
put_groups-requires-clause-entries g c =
    entries_ready g.S.TickSet.member c.args.self.now c.empty-made.result c.vars-own.result.now c.args.vars.now c.rows-rows.result.now c.in_ok-entries.entries.items c.deref.result.now
    (c.empty-made.ensures ∙ (λ i. table c.args.vars.now (c.domains.ensures i) (c.window.ensures.0 i) (c.window.ensures.1 i) []))
    c.deref.ensures.value c.vars-own.ensures.value c.rows-rows.ensures.value c.rows-rows.ensures.ordered c.in_ok-entries.ensures.entries

pub put_groups-requires-clause-above : goal.put_groups-requires-clause-above
put_groups-requires-clause-above g c = before_none c.empty-made.result.rows c.deref.result.now (ap (λ (z : Table g.row.S.Denot). z.rows) c.empty-made.ensures)

pub returns-clause-all : goal.returns-clause-all
returns-clause-all g c =
    projected_all g.S.TickSet.member c.args.self.now c.empty-made.result c.put_groups.new.made c.vars-own.result.now c.args.vars.now c.rows-rows.result.now c.deref.result.now
    c.domains.result.now c.window.result.lo c.window.result.hi c.vars-own.ensures.value c.rows-rows.ensures.value c.empty-made.ensures c.in_ok-put_groups.ensures
    (λ key t. ap (λ (es : List Entry). entries_have g.S.TickSet.member c.rows-rows.result.now es key t) c.deref.ensures.value ∙ c.in_ok-entries.ensures.ticks key t)
    c.requires.among

pub returns-clause-some : goal.returns-clause-some
returns-clause-some g c =
    projected_some g.S.TickSet.member c.args.self.now c.empty-made.result c.put_groups.new.made c.vars-own.result.now c.args.vars.now c.rows-rows.result.now c.deref.result.now
    c.domains.result.now c.window.result.lo c.window.result.hi c.vars-own.ensures.value c.rows-rows.ensures.value c.empty-made.ensures c.in_ok-put_groups.ensures
    (λ key t. ap (λ (es : List Entry). entries_have g.S.TickSet.member c.rows-rows.result.now es key t) c.deref.ensures.value ∙ c.in_ok-entries.ensures.ticks key t)
    c.rows-rows.ensures.ordered
