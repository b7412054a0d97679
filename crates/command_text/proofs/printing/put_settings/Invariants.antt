use Rattle.std.proofs.Common.{◌≡◌, ◌++◌, length}
use Rattle.std.specs.List.{flat_map}
use Rattle.command_text.specs.Text.{setting_text}
use Rattle.command_text.proofs.printing.put_settings.Given as goal

-- what was written and what is left to write make the whole
abbrev pub invariant-sets : goal.invariant-sets
invariant-sets l = l.out.items ++ flat_map setting_text l.rest ≡ l.fn.out.items ++ flat_map setting_text l.sets

abbrev pub decreases-sets : goal.decreases-sets
decreases-sets l = length l.rest
