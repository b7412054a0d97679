use Rattle.std.proofs.Common.{sym, ap, subst, ◌∙◌}
use Rattle.nearest.specs.Courses.{AreNumbered}
use Rattle.nearest.specs.Rows.{rows_along}
use Rattle.nearest.proofs.RowLemmas.{rows_near}
use Rattle.nearest.proofs.rows.nearest_rows.Goals as goal

pub rows_of-requires : goal.rows_of-requires
rows_of-requires g c = subst (AreNumbered 0) (sym c.deref.ensures.value) c.in_ok-courses.ensures.numbered

pub returns-clause-rows : goal.returns-clause-rows
returns-clause-rows g c =
    let target = c.timeline-target.result.now in
    c.in_ok-rows.ensures
    ∙ ap (λ courses. rows_along target courses c.args.k c.args.w courses) c.deref.ensures.value
    ∙ rows_near c.args.store.now target c.args.class c.args.to c.args.k c.args.w c.in_ok-courses.courses.items
    c.timeline-target.ensures.state c.in_ok-courses.ensures.stored c.in_ok-courses.ensures.ids
