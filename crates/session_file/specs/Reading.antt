-- What the lines of a session's text are read as: commands up to the first line that is faulty.
use Rattle.std.specs.Prelude.{◌≡◌, ℕ, ◌+◌, ◌==◌, ◌&&◌, nat_lt, Bool, true, Option, Some, None, List, [], ◌∷◌, codes, if◌then◌else◌}
use Rattle.std.specs.Option.{option_map_or}
use Rattle.std.specs.Str.{bytes_eq}
use Rattle.std.specs.Str.Lines.{lines}
use Rattle.command_text.specs.Journal.{ticks_of}
use Rattle.command_text.specs.Tree.{CommandTree, command_view}
use Rattle.session_file.specs.declared.counts.Counts.{Counts}
use Rattle.session_file.specs.declared.counts.Progress.{Progress}
use Rattle.session_file.specs.declared.fault.FileFault.{FileFault}
use Rattle.session_file.specs.declared.fault.FileFault.TheVariants as faults
use Rattle.session_file.specs.declared.reader.Loaded.{Loaded}
use Rattle.session_file.specs.Counts.{counts_of}
use Rattle.session_file.specs.Kept.{is_passed, kept_in}

-- commands with the numbers of their lines, and the fault of the line after them, if there is one
pub record Reading : Type 0 where
  pub commands : List (ℕ × CommandTree)
  pub fault : Option FileFault

abbrev pub stops : FileFault → Reading
stops fault = record { commands = []; fault = Some fault }

abbrev pub finished : Reading
finished = record { commands = []; fault = None }

abbrev pub with_first : ℕ × CommandTree → Reading → Reading
with_first c rest = record { commands = c ∷ rest.commands; fault = rest.fault }

-- ---- Where a command and the end may stand: anywhere, unless the text said how many commands there are

abbrev pub may_go_on : Progress → Bool
may_go_on p = option_map_or (λ (said : Counts). nat_lt p.seen.commands said.commands) p.said true

abbrev pub may_end : Progress → Bool
may_end p = option_map_or (λ (said : Counts). p.seen.commands == said.commands && p.seen.ticks == said.ticks) p.said true

-- commands are counted where the text said how many there are
abbrev pub progress_after : Progress → CommandTree → Progress
progress_after p c = option_map_or (λ (said : Counts). record { said = p.said; seen = record { commands = p.seen.commands + 1; ticks = p.seen.ticks + ticks_of c } }) p.said p

-- ---- Lines

pub data FileLine : Type 0 where
  Passed : FileLine
  End : FileLine
  Command : CommandTree → FileLine
  Bad : FileLine

-- blank lines and comments are passed over
unfoldable pub file_line_of : Progress → List ℕ → FileLine
file_line_of p line =
    if is_passed line then Passed
    else if bytes_eq line (codes "end") && may_end p then End
    else option_map_or Command (if may_go_on p then kept_in line else None) Bad

-- nothing may stand after the end, whatever it is
abbrev pub reading_after_end : ℕ → List (List ℕ) → Reading
reading_after_end number [] = finished
reading_after_end number (line ∷ rest) = stops (faults.BadLine number)

-- what lines are read as of which the first has this number
abbrev pub read_on : Progress → ℕ → List (List ℕ) → Reading
read_on p number [] = stops faults.NoEnd
read_on p number (line ∷ rest) = elim (file_line_of p line) [
  | Passed ↦ read_on p (number + 1) rest
  | End ↦ reading_after_end (number + 1) rest
  | Command c ↦ with_first (number, c) (read_on (progress_after p c) (number + 1) rest)
  | Bad ↦ stops (faults.BadLine number)
]

-- ---- Formats 1 and 2, by their first lines

abbrev pub old_header : List ℕ
old_header = codes "domino-session 1"

abbrev pub header : List ℕ
header = codes "domino-session 2"

abbrev pub starting : Option Counts → Progress
starting said = record { said = said; seen = record { commands = 0; ticks = 0 } }

-- the lines after the first of format 2, of which the next says the counts
abbrev pub read_counted : List (List ℕ) → Reading
read_counted [] = stops faults.NoEnd
read_counted (line ∷ rest) = option_map_or (λ said. read_on (starting (Some said)) 3 rest) (counts_of line) (stops (faults.BadLine 2))

abbrev pub read_lines : List (List ℕ) → Reading
read_lines [] = stops faults.BadHeader
read_lines (first ∷ rest) =
    if bytes_eq first old_header then read_on (starting None) 2 rest
    else if bytes_eq first header then read_counted rest
    else stops faults.BadHeader

unfoldable pub reading_of : List ℕ → Reading
reading_of text = read_lines (lines text)

-- ---- What calls promise of a reading

abbrev pub loaded_view : Loaded → ℕ × CommandTree
loaded_view loaded = (loaded.line, command_view loaded.command)

-- why a reading of which nothing else is left stops; want of memory tells nothing of the text
abbrev pub StopsBy : Reading → FileFault → Type 0
StopsBy left faults.NoMemory = Unit {0}
StopsBy left fault = left ≡ stops fault

-- the fault of a reading
abbrev pub ExplainsReading : Reading → FileFault → Type 0
ExplainsReading reading faults.NoMemory = Unit {0}
ExplainsReading reading fault = reading.fault ≡ Some fault

-- the first command that was left; or none was, and there is no fault
abbrev pub GivesNextCommand : Reading → Reading → Option Loaded → Type 0
GivesNextCommand left after None = (left ≡ finished) × (after ≡ finished)
GivesNextCommand left after (Some loaded) = left ≡ with_first (loaded_view loaded) after
