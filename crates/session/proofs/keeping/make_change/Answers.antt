use Rattle.std.proofs.lemmas.Result.{err_from_is_err_and}
use Rattle.command_text.specs.Tree.{command_view}
use Rattle.session.proofs.CarriedLemmas.{stopped_at_once}
use Rattle.session.proofs.FollowLemmas.{attempt_stopped}
use Rattle.session.proofs.keeping.make_change.Goals as goal

pub returns-in_err-change-clause-carries : goal.returns-in_err-change-clause-carries
returns-in_err-change-clause-carries g c =
    let p = err_from_is_err_and c.from_residual.result c.from_residual.ensures.1 in
    rw (p.1, p.2)
    (stopped_at_once _ _ _
    (attempt_stopped c.args.state.now.journal c.args.state.now.database _ (command_view c.args.command.now) _ c.requires.state.keeps
    c.requires.data.kept c.requires.data.other c.in_err-change.ensures))
