use Rattle.std.proofs.Common.{◌≡◌, ◌++◌, length}
use Rattle.fixed_point.specs.Canonical.{fix_text}
use Rattle.command_text.proofs.printing.put_number.Given as goal

-- what was written and what is left to write make the whole
abbrev pub invariant-digits : goal.invariant-digits
invariant-digits l = l.out.items ++ l.rest ≡ l.fn.out.items ++ fix_text l.fn.number

abbrev pub decreases-digits : goal.decreases-digits
decreases-digits l = length l.rest
