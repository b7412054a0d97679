use Rattle.std.proofs.Common.{◌∙◌, ap, arith}
use Rattle.places.specs.Patches.{joined}
use Rattle.object_store.specs.Placing.{spot_at}
use Rattle.object_store.proofs.AlongLemmas.{placed_along}
use Rattle.object_store.proofs.along.way_to.Goals as goal

pub returns : goal.returns
returns c = λ epochs told.
    let line = c.args.line.now in
    placed_along line epochs c.args.from c.args.upto c.max.result c.joined.result c.requires.begun (omega (arith, c.max.ensures))
    (c.joined.ensures ∙ ap (λ here. joined here c.place_at.result) c.requires.here ∙ ap (joined (spot_at line c.args.from)) c.place_at.ensures) told
