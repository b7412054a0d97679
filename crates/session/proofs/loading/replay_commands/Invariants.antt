-- what was carried out and what is left lead to the same as all, and may take no more looks than all
use Rattle.std.proofs.Common.{◌≡◌, ◌+◌, ◌≤◌, [], length}
use Rattle.session_file.specs.Reading.{reading_of}
use Rattle.line_meaning.specs.Loading.{replayed}
use Rattle.line_meaning.specs.Step.{held}
use Rattle.session.specs.Loads.{looks_of_loading, looks_replayed}
use Rattle.session.proofs.loading.replay_commands.Given as goal

abbrev pub invariant-commands : goal.invariant-commands
invariant-commands g l = record {
  same : replayed [] (reading_of l.text).commands ≡ replayed l.session.journal l.reader.commands;
  fault : (reading_of l.text).fault ≡ l.reader.fault;
  none : l.session ≡ held l.session.journal;
  least : l.fn.reads ≤ l.reads;
  most : l.reads + looks_replayed l.session.journal l.reader.commands ≤ l.fn.reads + looks_of_loading l.text;
}

abbrev pub decreases-commands : goal.decreases-commands
decreases-commands g l = length l.reader.commands
