-- A text that was saved is loaded as the commands of its journal, and what is left of one that was cut has a fault.
use Rattle.std.specs.Prelude.{◌≡◌, ℕ, ◌+◌, ◌<◌, ◌≤◌, Bool, true, false, None, IsSome, List, [], ◌∷◌, codes, length, map, take}
use Rattle.std.specs.List.{AllByRecursion, list_any}
use Rattle.std.specs.Str.{bytes_eq}
use Rattle.std.specs.Str.Lines.{lines}
use Rattle.tick_set.specs.declared.spans.TheConstants.{LAST_TICK}
use Rattle.command_text.specs.declared.journal.TheConstants.{MOST_ENTRIES}
use Rattle.command_text.specs.Tree.{CommandTree}
use Rattle.command_text.specs.Journal.{Accepted, clock, is_kept}
use Rattle.command_text.specs.Text.{text_of}
use Rattle.command_text.specs.Shape.{IsPrintable}
use Rattle.session_file.specs.declared.kept.TheConstants.{SESSION_LINE_LIMIT}
use Rattle.session_file.specs.Reading.{reading_of}
use Rattle.session_file.specs.Text.{session_text}

-- an entry as a session accepts it
pub record IsAcceptedEntry (e : Accepted) : Type 0 where
  pub kept : is_kept e.1 ≡ true
  pub printable : IsPrintable e.1
  pub short : length (text_of e.1) ≤ SESSION_LINE_LIMIT

pub record IsSavable (journal : List Accepted) : Type 0 where
  pub entries : AllByRecursion IsAcceptedEntry journal
  pub few : length journal ≤ MOST_ENTRIES
  pub ticks : clock journal ≤ LAST_TICK

-- commands on lines that follow one another
abbrev pub numbered_commands : ℕ → List CommandTree → List (ℕ × CommandTree)
numbered_commands number [] = []
numbered_commands number (c ∷ cs) = (number, c) ∷ numbered_commands (number + 1) cs

-- the first command stands on line 3
abbrev pub LoadsWhatIsSaved : Type 0
LoadsWhatIsSaved = (journal : List Accepted) → IsSavable journal →
    reading_of (session_text journal) ≡ record { commands = numbered_commands 3 (map (λ e. e.1) journal); fault = None }

-- ---- A text that was cut, as by a full disk

abbrev pub is_end : List ℕ → Bool
is_end line = bytes_eq line (codes "end")

-- whether a line of the text is `end`
abbrev pub has_end : List ℕ → Bool
has_end text = list_any is_end (lines text)

-- a text without a line `end` has a fault, whatever it is
abbrev pub TextsWithoutEndAreBad : Type 0
TextsWithoutEndAreBad = (text : List ℕ) → has_end text ≡ false → IsSome (reading_of text).fault

-- each front of a saved text that lacks more than the last line feed has a fault
abbrev pub CutTextsAreBad : Type 0
CutTextsAreBad = (journal : List Accepted) (n : ℕ) → IsSavable journal → n + 1 < length (session_text journal) →
    IsSome (reading_of (take n (session_text journal))).fault

-- and without the last line feed alone it is read as the whole
abbrev pub LastFeedMayLack : Type 0
LastFeedMayLack = (journal : List Accepted) (n : ℕ) → IsSavable journal → n + 1 ≡ length (session_text journal) →
    reading_of (take n (session_text journal)) ≡ reading_of (session_text journal)
