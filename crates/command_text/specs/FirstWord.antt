-- The word with which a line begins that is read as a command.
use Rattle.std.specs.Prelude.{◌≡◌, ℕ, Bool, true, ◌==◌, List, []}
use Rattle.std.specs.List.{starts_with}
use Rattle.ftl_lexer.specs.Forms.{after_blanks}
use Rattle.command_text.specs.Journal.{spelled}
use Rattle.command_text.specs.Parts.{Part, Verb, Parts, Blank, Last, Asking, ◌▸◌, parts}
use Rattle.command_text.specs.Tree.{CommandTree}

-- the word of a part that is a word
abbrev pub word_in : Part → List ℕ
word_in (Verb word) = word
word_in _ = []

abbrev pub word_before : Parts → List ℕ
word_before Blank = []
word_before (Last p) = word_in p
word_before (Asking q) = []
word_before (p ▸ ps) = word_in p

-- the first word of a command; a blank line has none
abbrev pub word_of_command : CommandTree → List ℕ
word_of_command c = word_before (parts c)

abbrev pub begins_with : List ℕ → List ℕ → Bool
begins_with bytes word = starts_with ◌==◌ bytes word

-- after its blanks the line begins with the first word of the command that it is
abbrev pub BeginsWithItsWord : List ℕ → Type 0
BeginsWithItsWord line = begins_with (after_blanks line) (word_of_command (spelled line)) ≡ true
