use Rattle.std.proofs.Common.{◌∙◌, Some, arith}
use Rattle.geometry.specs.Plane.{point}
use Rattle.courses.proofs.LineLemmas.{moved_on, place_at-straight}
use Rattle.courses.proofs.lines.straight_line.Goals as goal

pub returns-clause-places : goal.returns-clause-places
returns-clause-places c = λ t later last.
    let line = c.in_ok-line.line.now in
    let lo = c.args.span.lo in
    place_at-straight c.args.timeline.now line t c.in_ok-line.ensures.told (omega arith)
    ∙ (λ i. Some (point
    (moved_on line.x line.dx c.value_after.result line.from lo t c.value_after.ensures.value c.if-span-line.false later i)
    (moved_on line.y line.dy c.value_after-2.result line.from lo t c.value_after-2.ensures.value c.if-span-line.false later i)))
