use Rattle.std.proofs.Common.{◌≡◌, ◌++◌, length}
use Rattle.ftl_parser.specs.Text.{later_parts}
use Rattle.ftl_parser.proofs.printing.push_later_parts.Given as goal

-- what was written and what the parts that are left spell make the whole
abbrev pub invariant-loop-part : goal.invariant-loop-part
invariant-loop-part l = l.out.items ++ later_parts l.rest ≡ l.fn.out.items ++ later_parts l.parts

abbrev pub decreases-loop-part : goal.decreases-loop-part
decreases-loop-part l = length l.rest
