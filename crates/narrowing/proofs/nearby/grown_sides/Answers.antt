use Rattle.narrowing.proofs.BesideLemmas.{grows}
use Rattle.narrowing.proofs.nearby.grown_sides.Goals as goal

pub returns : goal.returns
returns c =
    grows c.args.most c.args.sides.now (record { least = c.lowered.result; greatest = c.raised.result }) c.lowered.ensures c.raised.ensures
