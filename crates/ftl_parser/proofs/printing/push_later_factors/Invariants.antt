use Rattle.std.proofs.Common.{◌≡◌, ◌++◌, length}
use Rattle.ftl_parser.specs.Text.{later_factors}
use Rattle.ftl_parser.proofs.printing.push_later_factors.Given as goal

-- what was written and what the factors that are left spell make the whole
abbrev pub invariant-loop-factor : goal.invariant-loop-factor
invariant-loop-factor l = l.out.items ++ later_factors l.rest ≡ l.fn.out.items ++ later_factors l.factors

abbrev pub decreases-loop-factor : goal.decreases-loop-factor
decreases-loop-factor l = length l.rest
