use Rattle.std.proofs.Common.{◌+◌}
use Rattle.courses.specs.Parts.{epochs_of_each}
use Rattle.courses.proofs.CountLemmas.{fewer_all, no_more_all}
use Rattle.courses.proofs.parts.common_from.Goals as goal

pub returns-clause-fewer : goal.returns-clause-fewer
returns-clause-fewer c = λ some begun. fewer_all (epochs_of_each c.args.timelines.now) (c.common_for.result.span.hi + 1) c.args.at c.args.last (c.common_for.ensures.fewer some begun)

pub returns-clause-not_more : goal.returns-clause-not_more
returns-clause-not_more c = no_more_all (epochs_of_each c.args.timelines.now) (c.common_for.result.span.hi + 1) c.args.at c.args.last c.common_for.ensures.not_more
