use Rattle.nearest.proofs.FoundLemmas.{nothing_more}
use Rattle.nearest.proofs.slices.add_slice.Goals as goal

pub returns-then-left-cost-clause-found : goal.returns-then-left-cost-clause-found
returns-then-left-cost-clause-found c = nothing_more c.args.aim.now.target.now c.args.courses.now c.args.aim.now.k c.args.slice.lo c.args.found.now.items
