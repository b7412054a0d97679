use Rattle.std.proofs.Common.{◌≡◌, ◌-◌, Some, length, sym, ap, ◌∙◌}
use Rattle.std.specs.Prelude.{slice_get}
use Rattle.std.specs.Option.{option_copied}
use Rattle.plane_index.specs.Held.{kept_strips}
use Rattle.plane_index.specs.States.{strips_by_state}
use Rattle.plane_index.specs.declared.state.State.{State}
use Rattle.plane_index.proofs.StoreLemmas.{by_last, by_state, no_last, no_state_tells}
use Rattle.plane_index.proofs.state.State.of.Goals as goal

pub returns-in-Some-clause-strips : goal.returns-in-Some-clause-strips
returns-in-Some-clause-strips c =
    let epochs = c.args.timeline.now in
    let g = c.args.grid.now in
    let p = c.in-Some.epoch.now in
    let found = ap option_copied c.in-Some.is in
    let is : slice_get epochs (length epochs - 1) ≡ Some p = sym c.last.ensures.value ∙ found in
    λ s. ap kept_strips
    (by_state p _ g s c.from-in-Some.ensures.value (c.copied.ensures ∙ c.cell.ensures.value ∙ ap (slice_get _) c.attribute.ensures)
    ∙ sym (by_last epochs p g s c.begun_by-begun.ensures.rising is (λ t begun. sym found ∙ c.last.ensures.in_force t begun)))

pub returns-in-None-clause-strips : goal.returns-in-None-clause-strips
returns-in-None-clause-strips c =
    let g = c.args.grid.now in
    λ s. ap kept_strips
    (ap (λ (state : State). strips_by_state state g s) c.none.ensures
    ∙ no_state_tells g s
    ∙ sym (no_last c.args.timeline.now g s (sym c.last.ensures.value ∙ ap option_copied c.in-None.is)))
