use Rattle.std.proofs.Common.{◌≡◌, ◌+◌, ◌-◌, ◌≤◌, pos, ◌+ℤ◌, ◌*ℤ◌, sym, ap, ◌∙◌, arith}
use Rattle.std.proofs.lemmas.Bool.Decides.{nat_tests}
use Rattle.plane.specs.Rows.{is_between}
use Rattle.plane_index.specs.Told.{lies_between}
use Rattle.plane_index.proofs.StoreLemmas.{lies_on_line}
use Rattle.plane_index.proofs.runs.line_from.Goals as goal
use Rattle.exact.proofs.Items.{if_some_map}

pub returns-in-0 : goal.returns-in-0
returns-in-0 c =
    let epochs = c.args.timeline.now in
    let told = c.in_ok-straight.ensures.told in
    let straight = c.in_ok-straight.straight.now in
    let at = c.args.at in
    let late = c.if-at-straight.false in
    let order : straight.from ≤ at = grind (arith, nat_tests, late) in
    if_some_map c.after.result _ _
    (λ line is lo hi t from.
    let same : at - straight.from + (t - at) ≡ t - straight.from = omega (arith, order, from) in
    ap (is_between lo hi) (is (t - at) ∙ ap (λ n. straight.x +ℤ straight.dx *ℤ pos n) same)
    ∙ lies_on_line epochs told.epoch told.x.vector 0 t lo hi _ (told.in_force t (omega (arith, order, from))) told.x.cell (told.x.value t (omega (arith, order, from)))
    ∙ ap (λ a. lies_between epochs a lo hi t) (sym c.in-0.is))
    c.after.ensures

pub returns-in-1 : goal.returns-in-1
returns-in-1 c =
    let epochs = c.args.timeline.now in
    let told = c.in_ok-straight.ensures.told in
    let straight = c.in_ok-straight.straight.now in
    let at = c.args.at in
    let late = c.if-at-straight.false in
    let order : straight.from ≤ at = grind (arith, nat_tests, late) in
    if_some_map c.after-in-1.result _ _
    (λ line is lo hi t from.
    let same : at - straight.from + (t - at) ≡ t - straight.from = omega (arith, order, from) in
    ap (is_between lo hi) (is (t - at) ∙ ap (λ n. straight.y +ℤ straight.dy *ℤ pos n) same)
    ∙ lies_on_line epochs told.epoch told.y.vector 1 t lo hi _ (told.in_force t (omega (arith, order, from))) told.y.cell (told.y.value t (omega (arith, order, from)))
    ∙ ap (λ a. lies_between epochs a lo hi t) (sym c.in-1.is))
    c.after-in-1.ensures
