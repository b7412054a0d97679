use Rattle.std.proofs.Common.{ap}
use Rattle.tick_set.specs.Runs.{spans_have}
use Rattle.answers.proofs.told.spans_of.Goals as goal

pub returns : goal.returns
returns c =
    c.runs_are_those_of_the_list.ensures.all (spans_have c.args.row.now.set) c.spans.result.now
    (record { normal = c.spans.ensures.normal; ticks = λ t. ap (λ spans. spans_have spans t) c.spans.ensures.value })
