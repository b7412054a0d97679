use Rattle.atoms.proofs.RunLemmas.{sides}
use Rattle.atoms.proofs.found.two_sides.Goals as goal

pub returns : goal.returns
returns c =
    sides c.args.span c.args.inner c.stretch.result c.stretch-2.result c.requires.first c.requires.last c.stretch.ensures c.stretch-2.ensures
