use Rattle.kept_rows.proofs.SpanTurnLemmas.{steady_before}
use Rattle.kept_rows.proofs.turning.first_turn.Goals as goal

pub returns-in-Some-2 : goal.returns-in-Some-2
returns-in-Some-2 c = λ u h k.
    steady_before c.args.spans.now c.from_tick.result.now _ c.in-Some.s.now c.args.t u c.from_tick.ensures c.in-Some.ensures.cases.0 h k
