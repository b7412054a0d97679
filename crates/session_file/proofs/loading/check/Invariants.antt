-- the fault is still to come, after the commands that were read
use Rattle.std.proofs.Common.{◌≡◌, ℕ, List, length}
use Rattle.command_text.specs.Tree.{CommandTree}
use Rattle.session_file.specs.Lacks.{after_commands}
use Rattle.session_file.specs.Reading.{reading_of}
use Rattle.session_file.proofs.loading.check.Given as goal

abbrev pub invariant-commands : goal.invariant-commands
invariant-commands l = record {
  fault : (reading_of l.text).fault ≡ l.reader.fault;
  read : (first : List (ℕ × CommandTree)) × (reading_of l.text ≡ after_commands first l.reader);
}

abbrev pub decreases-commands : goal.decreases-commands
decreases-commands l = length l.reader.commands
