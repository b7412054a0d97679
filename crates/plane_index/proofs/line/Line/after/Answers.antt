use Rattle.std.proofs.Common.{◌∙◌, arith}
use Rattle.std.proofs.lemmas.Int.{ints}
use Rattle.plane_index.proofs.LineLemmas.{line_later}
use Rattle.plane_index.proofs.line.Line.after.Goals as goal

pub returns : goal.returns
returns c =
    let value = c.raw.ensures.value in
    let slope = c.raw-2.ensures.value in
    let steep = c.raw-2.ensures.in_range in
    let moved = c.moved.ensures in
    let held = c.in_ok-start.ensures in
    let begins = c.raw-3.ensures.value in
    let leans = c.raw-4.ensures.value in
    let sized = c.raw-3.ensures.in_range in
    let small = c.raw-4.ensures.in_range in
    let large = c.raw.ensures.in_range in
    λ k. line_later c.args.value c.args.slope _ _ _ _ c.args.past k (omega (arith, ints, leans, small)) (omega (arith, ints, begins, sized, held) ∙ moved) (omega (arith, ints, value, large))
    (omega (arith, ints, slope, steep))
