use Rattle.std.proofs.Common.{◌∙◌, Some, ap}
use Rattle.generator.proofs.PlanLemmas.{in_a_round}
use Rattle.generator.proofs.plan.line_at.Goals as goal

pub returns-then-place-lt-FIRST_SHOW-clause-value : goal.returns-then-place-lt-FIRST_SHOW-clause-value
returns-then-place-lt-FIRST_SHOW-clause-value c =
    ap Some c.line_of_round.ensures ∙ in_a_round c.args.place c.if-place-lt-FIRST_ROUND.false c.if-place-lt-FIRST_SHOW.true
