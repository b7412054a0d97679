use Rattle.kept_rows.proofs.SpanTurnLemmas.{ends-within}
use Rattle.kept_rows.proofs.turning.ends_of.Goals as goal

pub returns-clause-some : goal.returns-clause-some
returns-clause-some c = λ t e.
    ends-within c.args.spans.now c.in-Some.field-0-1.now c.in-Some-split_last.field-0-1.now c.in-Some.first.now c.in-Some-split_last.last.now t c.requires
    c.in-Some.ensures.cases.0 c.in-Some-split_last.ensures.cases.0 e
