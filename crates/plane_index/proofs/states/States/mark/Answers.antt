use Rattle.std.proofs.Common.{◌≡◌, ◌||◌, [], sym, ap, subst, ◌∙◌, arith}
use Rattle.std.specs.Prelude.{slice_index_or}
use Rattle.std.proofs.lemmas.List.{get_or_default}
use Rattle.plane.specs.Boxes.{strips_meet}
use Rattle.plane_index.specs.Columns.{IsColumn}
use Rattle.plane_index.specs.Index.{fresh_at}
use Rattle.plane_index.specs.Lines.{strips_as}
use Rattle.plane_index.specs.States.{strips_at, States}
use Rattle.plane_index.proofs.ColumnLemmas.{marked_by_both}
use Rattle.plane_index.proofs.states.States.mark.Goals as goal

pub returns-clause-marks : goal.returns-clause-marks
returns-clause-marks c =
    let was = c.self.inside in
    let s = c.args.s in
    let slices = c.self.invariant.slices in
    let slice = c.requires.slice in
    let column : c.index.result.now ≡ slice_index_or was.columns.items s [] = c.index.ensures ∙ get_or_default was.columns.items s _ [] (omega (arith, slices, slice)) in
    let is = subst (IsColumn was.grid was.states.items s) (sym column) (c.self.invariant.each s slice) in
    let known = c.mark_known-known.ensures in
    λ k below.
    marked_by_both was.grid was.states.items s c.args.asked.now c.index.result.now c.args.marks.now c.mark_known-known.new.marks c.mark_rest.new.marks c.mark_known-known.result is
    known.known known.length known.marks known.rest
    (λ j from under.
    c.mark_rest.ensures.marks j from under
    ∙ ap (λ states. fresh_at c.mark_known-known.new.marks j || strips_meet (strips_as c.args.asked.now) (strips_at was.grid states j s)) c.deref.ensures.value)
    c.mark_rest.ensures.before k below
    ∙ ap (λ (kept : States). fresh_at c.args.marks.now k || strips_meet (strips_as c.args.asked.now) (strips_at kept.grid kept.states k s)) c.self.view_is
