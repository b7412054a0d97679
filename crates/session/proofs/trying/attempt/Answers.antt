use Rattle.std.proofs.Common.{length, refl, sym, ap, arith, ◌∙◌}
use Rattle.command_text.specs.Tree.{command_view}
use Rattle.database.proofs.ReadyLemmas.{is_ready}
use Rattle.session.specs.Trial.{journal_of}
use Rattle.session.proofs.RowLemmas.{row_short, write_kept, write_plain}
use Rattle.session.proofs.TrialLemmas.{tried_without_room}
use Rattle.session.proofs.trying.attempt.Goals as goal

pub has_room-requires-clause-bytes : goal.has_room-requires-clause-bytes
has_room-requires-clause-bytes c = c.requires.told.short

pub has_room-requires-clause-line : goal.has_room-requires-clause-line
has_room-requires-clause-line c =
    let short = row_short (command_view c.args.command.now) c.requires.row.2 in
    let same = ap length (c.deref.ensures.value ∙ c.in_ok-print_into.ensures.ok) in
    omega (arith, short, same)

pub returns-then-not-has_room-clause-tried : goal.returns-then-not-has_room-clause-tried
returns-then-not-has_room-clause-tried c =
    tried_without_room (journal_of c.args.journal.now c.args.trial.now) (command_view c.args.command.now) c.args.database.now c.requires.row.1 c.requires.told.keeps
    _ _ _ c.requires.told.entries c.requires.told.bytes (c.deref.ensures.value ∙ c.in_ok-print_into.ensures.ok) _
    (sym c.has_room.ensures ∙ c.if-not-has_room.true) refl

pub attempt-requires-clause-kept : goal.attempt-requires-clause-kept
attempt-requires-clause-kept c = write_kept (command_view c.args.command.now) c.requires.row.1

pub attempt-requires-clause-data : goal.attempt-requires-clause-data
attempt-requires-clause-data c = write_plain (command_view c.args.command.now) c.requires.row.1

pub attempt-requires-clause-ready : goal.attempt-requires-clause-ready
attempt-requires-clause-ready c = is_ready (command_view c.args.command.now) c.requires.row.0

pub attempt-requires-clause-timely : goal.attempt-requires-clause-timely
attempt-requires-clause-timely c = c.requires.told.keeps.timely
