use Rattle.std.proofs.Common.{[], length}
use Rattle.case_table.specs.declared.symbol.TheConstants.{OPEN_SQUARE}
use Rattle.command_text.specs.inner.Tests.{is_sign}
use Rattle.command_text.specs.inner.Reading.{begins, move_leg}
use Rattle.command_text.specs.inner.Standing.{standing}
use Rattle.command_text.proofs.grammar.ManyLemmas.{Goes}
use Rattle.command_text.proofs.legs.move_legs.Given as goal

-- what was read and what is left make the whole
abbrev pub invariant-legs : goal.invariant-legs
invariant-legs l = Goes (begins (is_sign OPEN_SQUARE)) move_leg [] (standing l.tokens l.fn.start) l.firsts.items (standing l.tokens l.at)

abbrev pub decreases-legs : goal.decreases-legs
decreases-legs l = length (standing l.tokens l.at).rest
