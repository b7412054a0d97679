use Rattle.std.proofs.Common.{◌+◌, ◌≤◌, ◌++◌, not, length, take, drop, sym, ap, subst, ◌∙◌, arith}
use Rattle.std.specs.Prelude.{count_by}
use Rattle.tick_set.specs.Ticks.{between}
use Rattle.history.specs.Catalog.{ids_of}
use Rattle.object_store.specs.Contents.{catalog_of}
use Rattle.plane.specs.Boxes.{Grid}
use Rattle.plane_index.specs.Index.{Index, fresh_at, index_of, AreAscendingIds, IsFresh, IsIndexOf}
use Rattle.plane_index.proofs.NumberLemmas.{ids_ascend}
use Rattle.plane_index.proofs.RenewLemmas.{all_fresh, all_right, are_stored, fields_renewed, looked_at, of_lent, seen_more}
use Rattle.plane_index.proofs.index.PlaneIndex.renew.Goals as goal

pub see-requires-clause-ascending : goal.see-requires-clause-ascending
see-requires-clause-ascending g c =
    subst AreAscendingIds (sym c.class_names.ensures.told) (ids_ascend (catalog_of c.args.store.now) c.class-class.result)

pub freshen-requires-clause-there : goal.freshen-requires-clause-there
freshen-requires-clause-there g c =
    are_stored c.args.store.now c.class-class.result c.self-2.inside.ids.items c.deref.result.now c.deref.ensures.value
    (ap (λ (index : Index). index.ids) c.self-2.view_is ∙ c.in_ok-see.ensures.seen ∙ c.class_names.ensures.told)

pub invariant_of-self : goal.invariant_of-self
invariant_of-self g c =
    let now = c.self-2.inside in
    let done =
    of_lent c.args.store.now now.states.grid c.freshen.new.states.grid c.deref.result.now now.ids.items c.deref_mut.result.now now.fresh.items c.freshen.new.fresh now.states.states
    c.freshen.new.states.states now.fresh.len c.deref.ensures.value c.deref_mut.ensures.value c.deref_mut.ensures.len c.freshen.ensures.grid c.freshen.ensures.lengths.0
    c.freshen.ensures.lengths.1 c.freshen.ensures.fresh c.freshen.ensures.kept c.freshen.ensures.right in
    fields_renewed c.args.store.now now.states.grid now.ids.items now.fresh.items _ now.states.states _ c.self-2.invariant done

pub returns-clause-fresh : goal.returns-clause-fresh
returns-clause-fresh g c =
    let now = c.self-2.inside in
    let done =
    of_lent c.args.store.now now.states.grid c.freshen.new.states.grid c.deref.result.now now.ids.items c.deref_mut.result.now now.fresh.items c.freshen.new.fresh now.states.states
    c.freshen.new.states.states now.fresh.len c.deref.ensures.value c.deref_mut.ensures.value c.deref_mut.ensures.len c.freshen.ensures.grid c.freshen.ensures.lengths.0
    c.freshen.ensures.lengths.1 c.freshen.ensures.fresh c.freshen.ensures.kept c.freshen.ensures.right in
    let seen = ap (λ (index : Index). index.ids) c.self-2.view_is ∙ c.in_ok-see.ensures.seen ∙ c.class_names.ensures.told in
    let class_of = c.class-class.ensures ∙ ap (λ (grid : Grid). grid.class) c.grid.ensures ∙ ap (λ (index : Index). index.grid.class) c.self.view_is in
    let same_class = class_of ∙ sym (ap (λ (grid : Grid). grid.class) c.in_ok-see.ensures.grid) ∙ sym (ap (λ (index : Index). index.grid.class) c.self-2.view_is) in
    subst (λ (grid : Grid). IsFresh c.args.store.now (index_of grid now.ids.items (take now.fresh.len (c.freshen.new.fresh ++ drop (length c.freshen.new.fresh) now.fresh.items)) c.freshen.new.states.states)) (sym c.freshen.ensures.grid)
    (all_fresh c.args.store.now now.states.grid now.ids.items now.fresh.items _ now.states.states _ (seen ∙ ap (ids_of (catalog_of c.args.store.now)) same_class) done)

pub returns-clause-right : goal.returns-clause-right
returns-clause-right g c =
    let was = c.self.inside in
    let now = c.self-2.inside in
    let done =
    of_lent c.args.store.now now.states.grid c.freshen.new.states.grid c.deref.result.now now.ids.items c.deref_mut.result.now now.fresh.items c.freshen.new.fresh now.states.states
    c.freshen.new.states.states now.fresh.len c.deref.ensures.value c.deref_mut.ensures.value c.deref_mut.ensures.len c.freshen.ensures.grid c.freshen.ensures.lengths.0
    c.freshen.ensures.lengths.1 c.freshen.ensures.fresh c.freshen.ensures.kept c.freshen.ensures.right in
    let class_of = c.class-class.ensures ∙ ap (λ (grid : Grid). grid.class) c.grid.ensures ∙ ap (λ (index : Index). index.grid.class) c.self.view_is in
    let all = c.in_ok-see.ensures.seen ∙ c.class_names.ensures.told ∙ ap (ids_of (catalog_of c.args.store.now)) class_of in
    let more =
    seen_more c.args.store.now was.states.grid was.ids.items was.fresh.items was.states.states c.args.self.now c.see.new.self c.self.view_is c.requires c.in_ok-see.ensures.grid all
    c.in_ok-see.ensures.fresh c.in_ok-see.ensures.strips in
    subst (λ (grid : Grid). IsIndexOf c.args.store.now (index_of grid now.ids.items (take now.fresh.len (c.freshen.new.fresh ++ drop (length c.freshen.new.fresh) now.fresh.items)) c.freshen.new.states.states)) (sym c.freshen.ensures.grid)
    (all_right c.args.store.now now.states.grid now.ids.items now.fresh.items _ now.states.states _ (subst (IsIndexOf c.args.store.now) (sym c.self-2.view_is) more) done)

pub returns-clause-reads : goal.returns-clause-reads
returns-clause-reads g c = record {
  least = omega arith;
  most = (let now = c.self-2.inside in
      let seen = ap (λ (index : Index). index.ids) c.self-2.view_is ∙ c.in_ok-see.ensures.seen ∙ c.class_names.ensures.told in
      let class_of = c.class-class.ensures ∙ ap (λ (grid : Grid). grid.class) c.grid.ensures ∙ ap (λ (index : Index). index.grid.class) c.self.view_is in
      let counted =
      looked_at c.args.store.now now.states.grid now.ids.items now.fresh.items now.states.states c.args.self.now c.see.new.self c.self-2.invariant c.self-2.view_is
      (seen ∙ ap (ids_of (catalog_of c.args.store.now)) class_of) c.in_ok-see.ensures.fresh in
      subst (λ count. c.freshen.new.reads ≤ c.args.reads.now + count)
      ((λ i. count_by (λ k. not (fresh_at (c.deref_mut.ensures.value i) k)) (between 0 (length (c.deref.ensures.value i)))) ∙ counted) c.freshen.ensures.reads.most);
}
