use Rattle.command_text.specs.Tree.{command_view}
use Rattle.line_meaning.specs.Step.{held}
use Rattle.session.proofs.SharingLemmas.{never_refused}
use Rattle.session.proofs.sharing.Shared.follow.Goals as goal

pub want_of_memory-requires : goal.want_of_memory-requires
want_of_memory-requires g c =
    never_refused (command_view c.args.printed.now.command.now) c.args.self.now.state.database c.args.desk.now c.change_places.new.state
    (held c.accept-accepted.new.state.journal) c.accept-accepted.result c.change_places.ensures.state c.requires.data c.requires.accepted
    c.accept-accepted.ensures.carries.stopped c.in-Err.fault c.in-Err.is
