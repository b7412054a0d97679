-- The text of a journal, in format 2.
use Rattle.std.specs.Prelude.{ℕ, List, [], ◌∷◌, ◌++◌, length, codes}
use Rattle.std.specs.List.{flat_map}
use Rattle.command_text.specs.Journal.{Accepted, clock}
use Rattle.command_text.specs.Text.{text_of}
use Rattle.session_file.specs.declared.counts.Counts.{Counts}
use Rattle.session_file.specs.Counts.{counts_line}
use Rattle.session_file.specs.Reading.{header}

-- a line with its line feed
abbrev pub ended_line : List ℕ → List ℕ
ended_line line = line ++ 10 ∷ []

abbrev pub entry_text : Accepted → List ℕ
entry_text e = ended_line (text_of e.1)

abbrev pub counts_in : List Accepted → Counts
counts_in journal = record { commands = length journal; ticks = clock journal }

unfoldable pub session_text : List Accepted → List ℕ
session_text journal =
    ended_line header ++ (ended_line (counts_line (counts_in journal)) ++ (flat_map entry_text journal ++ ended_line (codes "end")))
