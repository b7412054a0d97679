-- The journal as a list of ticks and commands.
use Rattle.std.specs.Prelude.{ℕ, ◌+◌, Bool, true, false, List, length, option_map, unwrap_or, sum_by}
use Rattle.command_text.specs.Tree
use Rattle.command_text.specs.Tree.{CommandTree}
use Rattle.command_text.specs.Text.{text_of}
use Rattle.command_text.specs.Line.{command_in}

-- when a command was accepted, and the command
abbrev pub Accepted : Type 0
Accepted = ℕ × CommandTree

-- the command that a line is
abbrev pub spelled : List ℕ → CommandTree
spelled line = unwrap_or (option_map (λ found. found.0) (command_in line)) Tree.Nothing

-- an entry by its tick and its canonical line
abbrev pub line_told : Accepted → ℕ × List ℕ
line_told entry = (entry.0, text_of entry.1)

-- the bytes of its canonical line with the line feed
abbrev pub line_bytes : Accepted → ℕ
line_bytes entry = length (text_of entry.1) + 1

-- the bytes of all the canonical lines with their line feeds
abbrev pub bytes_of : List Accepted → ℕ
bytes_of = sum_by line_bytes

-- a command that a journal keeps
abbrev pub is_kept : CommandTree → Bool
is_kept (Tree.Class name capacity point attributes) = true
is_kept (Tree.Region name points) = true
is_kept (Tree.Insert class name place sets) = true
is_kept (Tree.Update name place sets) = true
is_kept (Tree.Remove name) = true
is_kept (Tree.Tick ticks) = true
is_kept (Tree.Watch name span q) = true
is_kept (Tree.Keep name span q) = true
is_kept (Tree.Drop name) = true
is_kept _ = false

-- by how many ticks a command moves the clock
abbrev pub ticks_of : CommandTree → ℕ
ticks_of (Tree.Tick ticks) = ticks
ticks_of _ = 0

-- the clock: the sum of all ticks that passed
abbrev pub clock : List Accepted → ℕ
clock journal = sum_by (λ e. ticks_of e.1) journal
