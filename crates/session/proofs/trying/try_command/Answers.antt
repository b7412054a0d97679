use Rattle.command_text.specs.Tree.{command_view}
use Rattle.session.proofs.TrialLemmas.{same_told, tries_command}
use Rattle.session.proofs.trying.try_command.Goals as goal

pub attempt-requires-clause-told : goal.attempt-requires-clause-told
attempt-requires-clause-told c =
    same_told c.args.journal.now c.args.database.now c.args.trial.now c.reserve.new.self c.in_ok-reserve.ensures.same c.requires.told

pub returns : goal.returns
returns c =
    tries_command c.args.journal.now (command_view c.args.command.now) c.args.database.now c.attempt.new.database c.args.trial.now c.reserve.new.self
    c.attempt.new.line.items c.attempt.result c.in_ok-reserve.ensures.same c.in_ok-reserve.ensures.spare c.attempt.ensures.tried c.attempt.ensures.line
    c.attempt.ensures.bytes c.attempt.ensures.err
