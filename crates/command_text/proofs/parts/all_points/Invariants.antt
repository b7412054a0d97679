use Rattle.std.proofs.Common.{[], length}
use Rattle.case_table.specs.declared.symbol.TheConstants.{OPEN_ROUND}
use Rattle.command_text.specs.inner.Tests.{is_sign}
use Rattle.command_text.specs.inner.Reading.{begins, point}
use Rattle.command_text.specs.inner.Standing.{standing}
use Rattle.command_text.proofs.grammar.ManyLemmas.{Goes}
use Rattle.command_text.proofs.parts.all_points.Given as goal

-- what was read and what is left make the whole
abbrev pub invariant-points : goal.invariant-points
invariant-points l = Goes (begins (is_sign OPEN_ROUND)) point [] (standing l.tokens l.fn.start) l.points (standing l.tokens l.at)

abbrev pub decreases-points : goal.decreases-points
decreases-points l = length (standing l.tokens l.at).rest
