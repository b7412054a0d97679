use Rattle.narrowing.proofs.nearby.grown.Goals as goal

pub returns : goal.returns
returns c = record { x = c.grown_sides.ensures; y = c.grown_sides-2.ensures }
