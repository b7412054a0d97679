-- Counts stay far from overflow.
use Rattle.std.specs.Prelude.{◌≡◌, ◌*◌, ◌^◌, ◌≤◌, Some}
use Rattle.command_text.specs.declared.journal.TheConstants.{MOST_ENTRIES}
use Rattle.session_file.specs.declared.counts.Counts.{Counts}
use Rattle.session_file.specs.declared.counts.Progress.{Progress}

pub record Fits (p : Progress) : Type 0 where
  pub said : (said : Counts) → p.said ≡ Some said → said.commands ≤ MOST_ENTRIES
  pub ticks : p.seen.ticks ≤ 2 ^ 32 * p.seen.commands
  pub few : p.seen.commands ≤ MOST_ENTRIES
