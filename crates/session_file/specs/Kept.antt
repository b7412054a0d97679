-- Which lines are commands of a journal.
use Rattle.std.specs.Prelude.{◌≡◌, ℕ, ◌==◌, ◌&&◌, nat_le, is_none, Bool, true, Option, Some, None, List, [], ◌∷◌, length, if◌then◌else◌}
use Rattle.ftl_lexer.specs.Forms.{is_blank}
use Rattle.command_text.specs.Tree.{CommandTree}
use Rattle.command_text.specs.Journal.{is_kept, spelled}
use Rattle.command_text.specs.Line.{first_refusal}
use Rattle.command_text.specs.Text.{text_of}
use Rattle.session_file.specs.declared.kept.TheConstants.{SESSION_LINE_LIMIT}

-- nothing but spaces and tabs, or after them a `#`
abbrev pub is_passed : List ℕ → Bool
is_passed [] = true
is_passed (b ∷ bytes) = if is_blank b then is_passed bytes else b == 35

-- a command that a line of a text may have: a journal keeps it, and its canonical line is no longer than such a line
abbrev pub may_be_loaded : CommandTree → Bool
may_be_loaded c = is_kept c && nat_le (length (text_of c)) SESSION_LINE_LIMIT

-- the command of a line, None where it is refused or no such command
unfoldable pub kept_in : List ℕ → Option CommandTree
kept_in line = if is_none (first_refusal SESSION_LINE_LIMIT line) && may_be_loaded (spelled line) then Some (spelled line) else None

-- some line has the command
abbrev pub HasLine : CommandTree → Type 0
HasLine c = (line : List ℕ) × (kept_in line ≡ Some c)
