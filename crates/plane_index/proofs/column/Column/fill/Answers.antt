use Rattle.std.proofs.Common.{◌≡◌, ◌<◌, length, sym, ap, subst, ◌∙◌, arith}
use Rattle.std.proofs.lemmas.Bool.Decides.{nat_tests}
use Rattle.std.proofs.lemmas.List.{get_or_default}
use Rattle.plane_index.specs.Columns.{narrowed, IsColumn}
use Rattle.plane_index.specs.Held.{kept_strips}
use Rattle.plane_index.specs.States.{no_state, state_of_place, strips_by_state}
use Rattle.plane_index.specs.declared.state.State.{State}
use Rattle.plane_index.proofs.ColumnLemmas.{one_more_kept}
use Rattle.plane_index.proofs.column.Column.fill.Goals as goal

pub places-preserved : goal.places-preserved
places-preserved c =
    let grid = c.args.grid.now in
    let states = c.args.states.now in
    let covers = c.places.self-inside.covers.items in
    let test = c.places-test.true in
    let counted = c.len.ensures in
    let placed = c.len-place.ensures in
    let full = c.places.self-inside.covers.ok in
    let below : length covers < length states = grind (arith, nat_tests, test, counted, full) in
    let here : c.len-place.result ≡ length covers = omega (arith, placed, full) in
    let state = c.index-states-place.is ∙ get_or_default states c.len-place.result _ no_state (omega (arith, here, below)) ∙ ap (state_of_place states) here in
    subst (IsColumn grid states c.args.s) (sym c.in_ok-push.ensures.items)
    (one_more_kept grid states c.args.s covers c.narrowed.result c.places.invariant below
    (c.narrowed.ensures ∙ ap narrowed (c.cover-cover.ensures ∙ ap (λ (p : State). kept_strips (strips_by_state p grid c.args.s)) state)))
