use Rattle.std.proofs.Common.{◌≡◌, max, sym, ap, ◌∙◌, arith}
use Rattle.std.specs.Option.{option_map}
use Rattle.plane.specs.Boxes.{slice_first, strips_of}
use Rattle.plane_index.specs.Held.{kept_strips}
use Rattle.plane_index.specs.Lines.{box_as}
use Rattle.plane_index.proofs.ExtentLemmas.{covered}
use Rattle.plane_index.proofs.state.State.cover.Goals as goal

pub returns-in-Some : goal.returns-in-Some
returns-in-Some c =
    let p = c.args.self.now in
    let g = c.args.grid.now in
    let slice = c.slice-slice.result in
    let first = c.slice-slice.ensures.0 in
    let later = c.max-from.ensures in
    let begins : c.max-from.result ≡ max (slice_first g c.args.s) p.from = omega (arith, later, first) in
    let known = covered p g c.args.s c.max-from.result slice.hi c.extent.result begins c.slice-slice.ensures.1 c.extent.ensures in
    c.between.ensures.value
    ∙ sym (ap kept_strips (known ∙ ap (option_map (λ b. strips_of g.width (box_as b))) c.in-Some.is))
