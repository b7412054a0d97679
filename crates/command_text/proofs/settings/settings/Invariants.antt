use Rattle.std.proofs.Common.{[], length}
use Rattle.command_text.specs.inner.Tests.{is_name}
use Rattle.command_text.specs.inner.Reading.{begins, setting}
use Rattle.command_text.specs.inner.Standing.{standing}
use Rattle.command_text.proofs.grammar.ManyLemmas.{Goes}
use Rattle.command_text.proofs.settings.settings.Given as goal

-- what was read and what is left make the whole
abbrev pub invariant-settings : goal.invariant-settings
invariant-settings l = Goes (begins is_name) setting [] (standing l.tokens l.fn.start) l.sets (standing l.tokens l.at)

abbrev pub decreases-settings : goal.decreases-settings
decreases-settings l = length (standing l.tokens l.at).rest
