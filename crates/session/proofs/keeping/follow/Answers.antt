use Rattle.command_text.specs.Tree.{command_view}
use Rattle.session.proofs.FollowLemmas.{changed_reached}
use Rattle.session.proofs.keeping.follow.Goals as goal

pub tell_change-requires-clause-reached : goal.tell_change-requires-clause-reached
tell_change-requires-clause-reached g c =
    changed_reached c.args.state.now (command_view c.args.printed.now.command.now) c.args.changed.now.before c.args.changed.now.change c.requires.changed
    c.requires.data.kept c.requires.data.other _ c.in_ok-admit.ensures c.requires.legible.printable c.requires.legible.short
