use Rattle.std.proofs.Common.{◌≡◌, ◌++◌, length}
use Rattle.ftl_parser.specs.Text.{later_names}
use Rattle.ftl_parser.proofs.printing.push_later_names.Given as goal

-- what was written and what the names that are left spell make the whole
abbrev pub invariant-loop-name : goal.invariant-loop-name
invariant-loop-name l = l.out.items ++ later_names l.rest ≡ l.fn.out.items ++ later_names l.names

abbrev pub decreases-loop-name : goal.decreases-loop-name
decreases-loop-name l = length l.rest
