use Rattle.std.proofs.Common.{length}
use Rattle.case_table.specs.declared.symbol.TheConstants.{COMMA}
use Rattle.command_text.specs.inner.Tests.{is_sign}
use Rattle.command_text.specs.inner.Reading.{begins, next_attr}
use Rattle.command_text.specs.inner.Standing.{standing}
use Rattle.command_text.proofs.grammar.ManyLemmas.{Goes}
use Rattle.command_text.proofs.parts.more_attrs.Given as goal

-- what was read and what is left make the whole
abbrev pub invariant-attrs : goal.invariant-attrs
invariant-attrs l = Goes (begins (is_sign COMMA)) next_attr l.fn.attrs (standing l.tokens l.fn.start) l.attrs (standing l.tokens l.at)

abbrev pub decreases-attrs : goal.decreases-attrs
decreases-attrs l = length (standing l.tokens l.at).rest
