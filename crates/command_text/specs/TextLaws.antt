-- What holds of canonical lines, and of the lines from which their commands were read.
use Rattle.std.specs.Prelude.{◌≡◌, ℕ, ◌*◌, ◌≤◌, ◌==◌, false, List, length}
use Rattle.std.specs.List.{list_any}
use Rattle.command_text.specs.declared.reading.TheConstants.{LINE_LIMIT}
use Rattle.command_text.specs.Tree.{CommandTree}
use Rattle.command_text.specs.Line.{IsRead}
use Rattle.command_text.specs.Text.{text_of}
use Rattle.command_text.specs.Shape.{IsAscii, IsPrintable}

-- what a line is read as is printable
abbrev pub PrintsWhatIsRead : Type 0
PrintsWhatIsRead = (limit : ℕ) (line : List ℕ) (c : CommandTree) → IsRead limit line c → IsPrintable c

-- its canonical line has at most four bytes for each byte of the line
abbrev pub PrintsShortly : Type 0
PrintsShortly = (limit : ℕ) (line : List ℕ) (c : CommandTree) → IsRead limit line c → length (text_of c) ≤ 4 * length line

-- and so at most four times the limit of lines
abbrev pub PrintsWithinFourLimits : Type 0
PrintsWithinFourLimits = (limit : ℕ) (line : List ℕ) (c : CommandTree) → IsRead limit line c → length (text_of c) ≤ 4 * limit

-- the canonical line of a printable command has no byte that no line has, and no line feed
abbrev pub PrintsLines : Type 0
PrintsLines = (c : CommandTree) → IsPrintable c → IsAscii (text_of c) × (list_any (λ b. b == 10) (text_of c) ≡ false)

-- a printable command is read back from its canonical line
abbrev pub ReadsWhatIsPrinted : Type 0
ReadsWhatIsPrinted = (limit : ℕ) (c : CommandTree) → IsPrintable c → length (text_of c) ≤ limit → IsRead limit (text_of c) c

-- so a command that was read is read again from its canonical line
abbrev pub ReadsAgain : Type 0
ReadsAgain = (limit more : ℕ) (line : List ℕ) (c : CommandTree) → IsRead limit line c → length (text_of c) ≤ more → IsRead more (text_of c) c

-- and with four times the bytes of a line that is the canonical line of each
abbrev pub ReadsLinesAgain : Type 0
ReadsLinesAgain = (line : List ℕ) (c : CommandTree) → IsRead LINE_LIMIT line c → IsRead (4 * LINE_LIMIT) (text_of c) c
