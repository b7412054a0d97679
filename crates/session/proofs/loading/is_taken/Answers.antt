use Rattle.command_text.specs.Tree.{command_view}
use Rattle.session.proofs.LoadLemmas.{is_loadable}
use Rattle.session.proofs.loading.is_taken.Goals as goal

pub replay-requires-clause-kept : goal.replay-requires-clause-kept
replay-requires-clause-kept g c =
    (is_loadable c.read_commands_are_printable.ensures c.canonical_lines_are_read_back.ensures.printed (command_view c.args.command) c.requires).0

pub replay-requires-clause-legible : goal.replay-requires-clause-legible
replay-requires-clause-legible g c =
    (is_loadable c.read_commands_are_printable.ensures c.canonical_lines_are_read_back.ensures.printed (command_view c.args.command) c.requires).1
