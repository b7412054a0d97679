-- How bytes fall into lines.
use Rattle.std.specs.Prelude.{ℕ, List, [], ◌∷◌, ◌++◌, ◌==◌, if◌then◌else◌}
use Rattle.std.specs.Str.Lines.{strip_carriage_return}

-- the byte that ends a line
abbrev pub line_feed_byte : ℕ
line_feed_byte = 10

-- the lines that end in these bytes, where `begun` has come of the first one: each without its line feed, and without
-- one carriage return directly before that
abbrev pub ended_from : List ℕ → List ℕ → List (List ℕ)
ended_from begun [] = []
ended_from begun (byte ∷ bytes) =
    if byte == line_feed_byte then strip_carriage_return begun ∷ ended_from [] bytes else ended_from (begun ++ byte ∷ []) bytes

-- what has come of the line that is open after these bytes
abbrev pub open_from : List ℕ → List ℕ → List ℕ
open_from begun [] = begun
open_from begun (byte ∷ bytes) =
    if byte == line_feed_byte then open_from [] bytes else open_from (begun ++ byte ∷ []) bytes

-- the lines that end with a line feed
abbrev pub ended_lines : List ℕ → List (List ℕ)
ended_lines bytes = ended_from [] bytes

-- the bytes after the last line feed
abbrev pub open_line : List ℕ → List ℕ
open_line bytes = open_from [] bytes

-- bytes that no line feed ends are a line as they are, unless there are none
abbrev pub last_line : List ℕ → List (List ℕ)
last_line [] = []
last_line (byte ∷ bytes) = (byte ∷ bytes) ∷ []

-- the lines of a whole input
abbrev pub lines_of_input : List ℕ → List (List ℕ)
lines_of_input bytes = ended_lines bytes ++ last_line (open_line bytes)
