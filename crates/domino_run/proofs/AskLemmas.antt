-- A line of a command on files begins with one of three words.
use Rattle.std.proofs.Common.{inl, inr, ◌⊎◌, ◌≡◌, ℕ, ◌+◌, ◌<◌, length, arith, Bool, true, false, ◌||◌, List, refl, sym, ap, ◌∙◌}
use Rattle.std.specs.Prelude.{codes, drop, slice_index}
use Rattle.std.specs.Char.{is_ascii_whitespace}
use Rattle.std.specs.List.{prefix_len}
use Rattle.std.proofs.lemmas.List.Sums.{prefix_len_is}
use Rattle.command_text.specs.FirstWord.{BeginsWithItsWord, begins_with, word_of_command}
use Rattle.command_text.specs.Journal.{spelled}
use Rattle.command_text.specs.Tree
use Rattle.command_text.specs.Tree.{CommandTree}
use Rattle.command_text.proofs.CallerLemmas.{begins_trimmed}
use Rattle.line_meaning.specs.Role.{asks_shelf}
use Rattle.ftl_lexer.specs.Forms.{after_blanks}

-- after all its white space
abbrev pub trimmed : List ℕ → List ℕ
trimmed line = drop (prefix_len is_ascii_whitespace line) line

-- what std promises of trimming
abbrev pub Trims : List ℕ → List ℕ → Type 0
Trims line rest = (n : ℕ) × (rest ≡ drop n line) × (length rest + n ≡ length line)
    × ((i : ℕ) → i < n → is_ascii_whitespace (slice_index line i) ≡ true)
    × (n < length line → is_ascii_whitespace (slice_index line n) ≡ false)

pub trimmed_is : (line rest : List ℕ) → Trims line rest → rest ≡ trimmed line
trimmed_is line rest (n, is, long, white, stops) =
    is ∙ ap (λ k. drop k line) (sym (prefix_len_is is_ascii_whitespace line n 0 (omega (arith, long)) white stops))

abbrev BeginsSo : List ℕ → Type 0
BeginsSo line =
    (begins_with (trimmed line) (codes "save") ≡ true) ⊎ ((begins_with (trimmed line) (codes "import") ≡ true)
    ⊎ (begins_with (trimmed line) (codes "export") ≡ true))

begins_so : (c : CommandTree) (line : List ℕ) → asks_shelf c ≡ true → begins_with (after_blanks line) (word_of_command c) ≡ true → BeginsSo line
begins_so Tree.Nothing line asks h = absurd (cc asks)
begins_so Tree.Listing line asks h = absurd (cc asks)
begins_so Tree.Quit line asks h = absurd (cc asks)
begins_so (Tree.Class a b c d) line asks h = absurd (cc asks)
begins_so (Tree.Region a b) line asks h = absurd (cc asks)
begins_so (Tree.Insert a b c d) line asks h = absurd (cc asks)
begins_so (Tree.Update a b c) line asks h = absurd (cc asks)
begins_so (Tree.Remove a) line asks h = absurd (cc asks)
begins_so (Tree.Tick a) line asks h = absurd (cc asks)
begins_so (Tree.Ask a b) line asks h = absurd (cc asks)
begins_so (Tree.Watch a b c) line asks h = absurd (cc asks)
begins_so (Tree.Keep a b c) line asks h = absurd (cc asks)
begins_so (Tree.Show a) line asks h = absurd (cc asks)
begins_so (Tree.Drop a) line asks h = absurd (cc asks)
begins_so (Tree.Save a) line asks h = inl (begins_trimmed line 115 (codes "ave") refl h)
begins_so (Tree.Import a b) line asks h = inr (inl (begins_trimmed line 105 (codes "mport") refl h))
begins_so (Tree.Export a b) line asks h = inr (inr (begins_trimmed line 101 (codes "xport") refl h))
begins_so (Tree.Nearest a b c d) line asks h = absurd (cc asks)
begins_so (Tree.Must a b c) line asks h = absurd (cc asks)
begins_so (Tree.May a b c) line asks h = absurd (cc asks)
begins_so (Tree.Index a b c) line asks h = absurd (cc asks)
begins_so (Tree.Range a b c d e) line asks h = absurd (cc asks)

-- a line that begins with none of them doesn't ask the shelf
pub asks_not : (line command : List ℕ) (saves imports exports : Bool) → BeginsWithItsWord line → command ≡ trimmed line →
    saves ≡ begins_with command (codes "save") → imports ≡ begins_with command (codes "import") →
    exports ≡ begins_with command (codes "export") → ((saves || imports) || exports) ≡ false →
    asks_shelf (spelled line) ≡ true → ⊥
asks_not line command saves imports exports begins at save import export none asks =
    elim (begins_so (spelled line) line asks begins) [
      | inl h ↦ first saves imports exports (save ∙ ap (λ l. begins_with l (codes "save")) at ∙ h) none
      | inr (inl h) ↦ second saves imports exports (import ∙ ap (λ l. begins_with l (codes "import")) at ∙ h) none
      | inr (inr h) ↦ third saves imports exports (export ∙ ap (λ l. begins_with l (codes "export")) at ∙ h) none
    ]
  where
    first : (a b c : Bool) → a ≡ true → ((a || b) || c) ≡ false → ⊥
    first true b c is none = cc none
    first false b c is none = cc is

    second : (a b c : Bool) → b ≡ true → ((a || b) || c) ≡ false → ⊥
    second true b c is none = cc none
    second false true c is none = cc none
    second false false c is none = cc is

    third : (a b c : Bool) → c ≡ true → ((a || b) || c) ≡ false → ⊥
    third true b c is none = cc none
    third false true c is none = cc none
    third false false true is none = cc none
    third false false false is none = cc is
