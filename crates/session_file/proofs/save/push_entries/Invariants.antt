-- the entries before this one are written, and their ticks are summed
use Rattle.std.proofs.Common.{◌≡◌, ◌+◌, ◌++◌, take}
use Rattle.std.specs.List.{flat_map}
use Rattle.command_text.specs.Journal.{clock}
use Rattle.session_file.specs.Text.{entry_text}
use Rattle.session_file.proofs.save.push_entries.Given as goal

abbrev pub invariant-entries : goal.invariant-entries
invariant-entries g l = record {
  text : l.text.items ≡ l.initial.text.items ++ flat_map entry_text (take l.i l.journal);
  ticks : l.ticks ≡ clock (take l.i l.journal);
  reads : l.reads ≡ l.initial.reads + l.i;
}
