use Rattle.std.proofs.Common.{arith}
use Rattle.exact.proofs.Sizes.{steps}
use Rattle.distance_crossing.proofs.Triangles.{width_least}
use Rattle.distance_crossing.proofs.TrialLemmas.{fits_by-exact, whole_width}
use Rattle.distance_crossing.proofs.search.fits_at.Goals as goal

pub returns : goal.returns
returns c =
    let width = whole_width c.args.m.now.r c.squared_width-width.result c.unsigned_abs.result c.squared_width-width.ensures.value
    (width_least c.args.m.now.r c.squared_width-width.result c.squared_width-width.ensures.value) (grind (arith, steps)) in
    fits_by-exact c.args.m.now c.args.k c.circle_at.result.over c.circle_at.result.under c.unsigned_abs.result c.circle_at.ensures.over c.circle_at.ensures.under width
    c.is_at_most.result c.is_at_most.ensures.0 c.is_at_most.ensures.1
