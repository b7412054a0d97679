use Rattle.std.proofs.Common.{◌≡◌, ◌++◌, length}
use Rattle.std.specs.List.{flat_map}
use Rattle.command_text.specs.Text.{rate_leg_text}
use Rattle.command_text.proofs.printing.put_rate_legs.Given as goal

-- what was written and what is left to write make the whole
abbrev pub invariant-legs : goal.invariant-legs
invariant-legs l = l.out.items ++ flat_map rate_leg_text l.rest ≡ l.fn.out.items ++ flat_map rate_leg_text l.firsts

abbrev pub decreases-legs : goal.decreases-legs
decreases-legs l = length l.rest
