use Rattle.std.proofs.Common.{◌≡◌, ◌≤◌, ◌+◌, true, length, map}
use Rattle.std.specs.Prelude.{is_some}
use Rattle.std.specs.List.{AllByRecursion}
use Rattle.command_text.specs.Tree.{command_view}
use Rattle.session.specs.Rows.{AreEntered, HaveWrittenLines, IsRowCommand, journal_after_commands, looks_of_commands}
use Rattle.session.specs.State.{IsState, KeepsIndexes}
use Rattle.session.proofs.importing.enter_rows.Given as goal
use Rattle.kept_indexes.specs.Making.{HasRoomForOk}

-- the commands so far are entered and their lines written, and nothing refuses the rest after them
abbrev pub invariant-rows : goal.invariant-rows
invariant-rows g l = record {
  state : IsState l.state.journal l.state;
  indexes : KeepsIndexes l.fn.state l.state;
  rows : AllByRecursion IsRowCommand (map command_view l.rest);
  taken : is_some (journal_after_commands l.state.journal (map command_view l.rest)) ≡ true;
  entered : AreEntered l.fn.state.journal (map command_view l.commands) l.state.journal (map command_view l.rest);
  room : HasRoomForOk l.out;
  written : HaveWrittenLines l.fn.state.journal (map command_view l.commands) l.state.journal (map command_view l.rest) l.fn.out.items l.out.items;
  least : l.fn.reads ≤ l.reads;
  most : l.reads + looks_of_commands l.state.journal (map command_view l.rest)
      ≤ l.fn.reads + looks_of_commands l.fn.state.journal (map command_view l.commands);
}

abbrev pub decreases-rows : goal.decreases-rows
decreases-rows g l = length l.rest
