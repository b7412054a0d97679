use Rattle.std.proofs.Common.{true, false, sym, ◌∙◌}
use Rattle.registry.proofs.AnswerLemmas.{none_shown}
use Rattle.registry.proofs.NameLemmas.{unregistered_is}
use Rattle.registry.proofs.telling.show.Goals as goal

pub returns-then-not-has-clause-shows : goal.returns-then-not-has-clause-shows
returns-then-not-has-clause-shows c =
    unregistered_is c.args.live.now c.args.name.now false (sym c.if-not-has.true ∙ c.has.ensures)

pub returns-in_err-push_answer-clause-shows : goal.returns-in_err-push_answer-clause-shows
returns-in_err-push_answer-clause-shows c =
    none_shown c.args.database.now c.args.live.now c.args.name.now c.args.out.now.items c.push_answer.new.out.items c.from_residual.result
    c.from_residual.ensures.1
    (unregistered_is c.args.live.now c.args.name.now true (sym c.if-not-has.false ∙ c.has.ensures))

pub returns-clause-shows : goal.returns-clause-shows
returns-clause-shows c = (
  unregistered_is c.args.live.now c.args.name.now true (sym c.if-not-has.false ∙ c.has.ensures),
  c.in_ok-push_answer.ensures.ok,
)
