use Rattle.std.specs.Int.{w128}
use Rattle.std.proofs.lemmas.Int.{to_z-of_z}
use Rattle.nearest.proofs.low.guessed.Goals as goal

pub returns-clause-first : goal.returns-clause-first
returns-clause-first c = rw (to_z-of_z w128 c.args.limit c.ranges.limit) at c.in_ok-first.ensures

pub returns-clause-end : goal.returns-clause-end
returns-clause-end c = rw (to_z-of_z w128 c.args.limit c.ranges.limit) at c.in_ok-end.ensures
