use Rattle.std.proofs.Common.{◌≡◌, ◌<◌, ap, sym, subst, ◌∙◌}
use Rattle.std.specs.Option.{option_copied}
use Rattle.courses.specs.Parts.{epochs_of_each, piece_count, pieces_of_all}
use Rattle.atoms.proofs.StraightLemmas.{counted_beside, counted_line}
use Rattle.atoms.proofs.lines.line_of.Goals as goal

pub returns-clause-counted : goal.returns-clause-counted
returns-clause-counted c =
    let w = c.args.traces.now.w in
    let span = c.span.result in
    let timelines = epochs_of_each c.args.traces.now.timelines.now in
    let epochs = c.in_ok-timeline.timeline.now in
    let same : piece_count epochs span.lo span.hi ≡ piece_count epochs w.lo w.hi = λ i. piece_count epochs (c.span.ensures.0 i) (c.span.ensures.1 i) in
    counted_line c.straight_line.result (piece_count epochs span.lo span.hi) (pieces_of_all timelines w.lo w.hi) c.straight_line.ensures.counted
    (λ some. counted_beside c.args.traces.now.variables.now timelines c.args.v w.lo w.hi epochs (sym (sym c.timeline_of.ensures ∙ ap option_copied c.in_ok-timeline.was))
    (subst (λ n. 0 < n) same some))
