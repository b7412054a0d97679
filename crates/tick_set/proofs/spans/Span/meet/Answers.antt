use Rattle.tick_set.proofs.PartLemmas.{none_shared}
use Rattle.tick_set.proofs.spans.Span.meet.Goals as goal

pub returns-clause-none : goal.returns-clause-none
returns-clause-none c = none_shared c.args.self c.args.other c.max.result c.min.result c.max.ensures c.min.ensures c.new.result c.new.ensures.valid
