use Rattle.std.proofs.Common.{sym, ap, subst, ◌∙◌}
use Rattle.plane.specs.Boxes.{Grid}
use Rattle.plane_index.specs.Index.{Index, IsFresh, IsIndexOf}
use Rattle.plane_index.specs.Rows.{told_range_rows}
use Rattle.plane_index.proofs.NumberLemmas.{candidates_stored}
use Rattle.plane_index.proofs.RangeLemmas.{if_told, told_by_candidates}
use Rattle.plane_index.proofs.index.PlaneIndex.range_rows.Goals as goal

pub rows_of-requires : goal.rows_of-requires
rows_of-requires g c =
    let right = subst (IsIndexOf c.args.store.now) (sym c.prepare.ensures) c.in_ok-renew.ensures.right in
    let fresh = subst (IsFresh c.args.store.now) (sym c.prepare.ensures) c.in_ok-renew.ensures.fresh in
    candidates_stored c.args.store.now c.prepare.new.self.grid c.args.lo c.args.hi c.args.w.lo c.args.w.hi c.deref.result.now
    (c.deref.ensures.value ∙ c.in_ok-found.ensures c.args.store.now right fresh)

pub returns-clause-rows : goal.returns-clause-rows
returns-clause-rows g c =
    let right = subst (IsIndexOf c.args.store.now) (sym c.prepare.ensures) c.in_ok-renew.ensures.right in
    let fresh = subst (IsFresh c.args.store.now) (sym c.prepare.ensures) c.in_ok-renew.ensures.fresh in
    let found = c.deref.ensures.value ∙ c.in_ok-found.ensures c.args.store.now right fresh in
    if_told (λ rows. told_range_rows rows.items) c.rows_of.result _ _
    (told_by_candidates c.args.store.now c.args.self.now.grid c.prepare.new.self.grid c.args.lo c.args.hi c.args.w.lo c.args.w.hi c.attribute.result c.deref.result.now c.requires.covered
    (ap (λ (index : Index). index.grid) c.prepare.ensures ∙ c.in_ok-renew.ensures.grid) (c.attribute.ensures ∙ ap (λ (grid : Grid). grid.attribute) c.grid.ensures) found)
    c.rows_of.ensures.rows
