use Rattle.std.proofs.Common.{◌≡◌, ◌+◌, ◌*◌, ◌<◌, pos, arith}
use Rattle.exact.proofs.Sizes.{steps}
use Rattle.geometry.specs.Circle.{squared_width}
use Rattle.distance_crossing.proofs.Triangles.{width_least}
use Rattle.distance_crossing.proofs.TrialLemmas.{last_alone, not_at_most, not_below, trial_exceeds, trial_falls, trial_fits, trial_rises, whole_width}
use Rattle.distance_crossing.proofs.search.place_at.Goals as goal
use Rattle.distance_crossing.proofs.search.place_at.Goals.{else-k-last-via-then-k-last+else-is_below, else-k-last-via-else-k-last}

pub returns-then-is_at_most-clause-here : goal.returns-then-is_at_most-clause-here
returns-then-is_at_most-clause-here c =
    let width : pos c.unsigned_abs.result ≡ squared_width c.args.m.now.r =
    whole_width c.args.m.now.r c.squared_width.result c.unsigned_abs.result c.squared_width.ensures.value
    (width_least c.args.m.now.r c.squared_width.result c.squared_width.ensures.value) (grind (arith, steps)) in
    λ h. trial_fits c.args.m.now c.args.k c.circle_at-circle.result.over c.circle_at-circle.result.under c.unsigned_abs.result c.circle_at-circle.ensures.over c.circle_at-circle.ensures.under width
    (c.is_at_most.ensures.0 c.if-is_at_most.true)

pub circle_at-requires : goal.circle_at-requires
circle_at-requires c = c.requires.close (c.args.k + 1) (omega arith) (omega arith)

pub returns-then-is_below-clause-after : goal.returns-then-is_below-clause-after
returns-then-is_below-clause-after c =
    let width : pos c.unsigned_abs.result ≡ squared_width c.args.m.now.r =
    whole_width c.args.m.now.r c.squared_width.result c.unsigned_abs.result c.squared_width.ensures.value
    (width_least c.args.m.now.r c.squared_width.result c.squared_width.ensures.value) (grind (arith, steps)) in
    let circle = c.circle_at-circle.result in
    λ h. trial_falls c.args.m.now c.args.k circle.over circle.under c.unsigned_abs.result c.circle_at-circle.ensures.over c.circle_at-circle.ensures.under width
    c.circle_at.result.over c.circle_at.result.under c.circle_at.ensures.over c.circle_at.ensures.under
    (not_at_most circle.over (c.unsigned_abs.result * circle.under) c.is_at_most.result c.if-is_at_most.false c.is_at_most.ensures.1)
    (c.is_below.ensures.0 c.if-is_below.true)

pub returns-clause-before : goal.returns-clause-before
returns-clause-before c =
    let width : pos c.unsigned_abs.result ≡ squared_width c.args.m.now.r =
    whole_width c.args.m.now.r c.squared_width.result c.unsigned_abs.result c.squared_width.ensures.value
    (width_least c.args.m.now.r c.squared_width.result c.squared_width.ensures.value) (grind (arith, steps)) in
    let circle = c.circle_at-circle.result in
    let large : c.unsigned_abs.result * circle.under < circle.over =
    not_at_most circle.over (c.unsigned_abs.result * circle.under) c.is_at_most.result c.if-is_at_most.false c.is_at_most.ensures.1 in
    λ h. elim c.else-k-last.branch [
      | else-k-last-via-then-k-last+else-is_below w ↦
          (λ t a b.
          trial_rises c.args.m.now c.args.k circle.over circle.under c.unsigned_abs.result c.circle_at-circle.ensures.over c.circle_at-circle.ensures.under width
          w.circle_at.result.over w.circle_at.result.under w.circle_at.ensures.over w.circle_at.ensures.under large
          (not_below (w.circle_at.result.over * circle.under) (circle.over * w.circle_at.result.under) w.is_below.result w.if-is_below.false w.is_below.ensures.1) t a)
      | else-k-last-via-else-k-last w ↦
          last_alone c.args.m.now c.args.k c.args.last
          (trial_exceeds c.args.m.now c.args.k circle.over circle.under c.unsigned_abs.result c.circle_at-circle.ensures.over c.circle_at-circle.ensures.under width large)
          w.if-k-last.false
    ]
