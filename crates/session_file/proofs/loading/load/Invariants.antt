-- what was loaded and what is left make the whole
use Rattle.std.proofs.Common.{◌≡◌, ◌++◌, length, map}
use Rattle.session_file.specs.Reading.{loaded_view, reading_of}
use Rattle.session_file.proofs.loading.load.Given as goal

abbrev pub invariant-commands : goal.invariant-commands
invariant-commands l = reading_of l.text ≡ record { commands = map loaded_view l.loaded.items ++ l.reader.commands; fault = l.reader.fault }

abbrev pub decreases-commands : goal.decreases-commands
decreases-commands l = length l.reader.commands
