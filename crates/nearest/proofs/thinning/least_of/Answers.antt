use Rattle.std.proofs.Common.{◌-◌, arith}
use Rattle.nearest.proofs.ThinLemmas.{ascending_counted}
use Rattle.nearest.proofs.thinning.least_of.Goals as goal

pub returns : goal.returns
returns c =
    let counted = ascending_counted c.args.ascending.now (c.args.k - 1) c.requires (omega arith) in
    omega (arith, counted)
