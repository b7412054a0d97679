-- The line of a text that says how many commands follow, and how many ticks they let pass.
use Rattle.std.specs.Prelude.{ℕ, ◌==◌, not, ◌&&◌, nat_le, Option, Some, None, List, ◌++◌, codes, length, take, drop, if◌then◌else◌}
use Rattle.std.specs.Fmt.{decimal}
use Rattle.std.specs.Str.{bytes_eq}
use Rattle.std.specs.Str.Parse.{digits_value}
use Rattle.exact.specs.Options.{◌>>=◌}
use Rattle.fixed_point.specs.Decimal.{digits_at}
use Rattle.fixed_point.specs.declared.reading.TheConstants.{WHOLE_DIGITS_LIMIT}
use Rattle.fixed_point.specs.Digits.{has_spare_zero}
use Rattle.tick_set.specs.declared.spans.TheConstants.{LAST_TICK}
use Rattle.command_text.specs.declared.journal.TheConstants.{MOST_ENTRIES}
use Rattle.session_file.specs.declared.counts.Counts.{Counts}

-- entries 5 clock 3
abbrev pub counts_line : Counts → List ℕ
counts_line counts = codes "entries " ++ (decimal counts.commands ++ (codes " clock " ++ decimal counts.ticks))

-- a whole number of at most `most` without zeros before it, and what follows it
unfoldable pub whole_in_front : ℕ → List ℕ → Option (ℕ × List ℕ)
whole_in_front most text = do
  parts ← digits_at WHOLE_DIGITS_LIMIT text
  if not (has_spare_zero parts.0) && nat_le (digits_value 10 parts.0) most then Some (digits_value 10 parts.0, parts.1) else None

-- what follows a word
abbrev pub after_word : List ℕ → List ℕ → Option (List ℕ)
after_word word text = if bytes_eq (take (length word) text) word then Some (drop (length word) text) else None

-- what such a line says, None of another line
unfoldable pub counts_of : List ℕ → Option Counts
counts_of line = do
  entries ← after_word (codes "entries ") line
  commands ← whole_in_front MOST_ENTRIES entries
  clock ← after_word (codes " clock ") commands.1
  ticks ← whole_in_front LAST_TICK clock
  if length ticks.1 == 0 then Some (record { commands = commands.0; ticks = ticks.0 }) else None
