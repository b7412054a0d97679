use Rattle.std.proofs.Common.{ap, ◌∙◌}
use Rattle.std.specs.Prelude.{fold}
use Rattle.std.proofs.lemmas.List.{take_all}
use Rattle.polygon.proofs.BoundLemmas.{bounds_hold, greater, lesser}
use Rattle.polygon.proofs.bounds.bounds_of.Goals as goal

pub returns : goal.returns
returns c =
    let first = c.args.first.now in
    let all = take_all c.loop-p.p-index c.args.others.now c.loop-p-test.false in
    bounds_hold first c.args.others.now c.loop-p.least c.loop-p.greatest
    (c.loop-p.invariant.least ∙ ap (fold lesser first) all) (c.loop-p.invariant.greatest ∙ ap (fold greater first) all)
