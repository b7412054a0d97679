-- How a journal is kept: the canonical lines one after another, each with a line feed, and where each of them stands.
use Rattle.std.specs.Prelude.{◌≡◌, ℕ, ◌+◌, ◌≤◌, List, [], ◌∷◌, length, take, drop}
use Rattle.command_text.specs.declared.journal.TheConstants.{MOST_ENTRIES, MOST_BYTES}
use Rattle.command_text.specs.declared.journal.Kept.{Kept}
use Rattle.command_text.specs.Text.{text_of}
use Rattle.command_text.specs.Journal.{Accepted, spelled}

abbrev pub line_in : List ℕ → Kept → List ℕ
line_in text k = take k.size (drop k.from text)

abbrev pub accepted : List ℕ → Kept → Accepted
accepted text k = (k.tick, spelled (line_in text k))

-- from this place to its end the text is these lines, each the canonical line of its command
abbrev pub AreLines : ℕ → List Kept → List ℕ → Type 0
AreLines place [] text = place ≡ length text
AreLines place (k ∷ ks) text =
    (k.from ≡ place) × (text_of (spelled (line_in text k)) ≡ line_in text k) × AreLines (place + k.size + 1) ks text

pub record IsJournal (kept : List Kept) (text : List ℕ) : Type 0 where
  pub lines : AreLines 0 kept text
  pub few : length kept ≤ MOST_ENTRIES
  pub short : length text ≤ MOST_BYTES
