-- Several users as a line machine, which want of memory spends.
use Rattle.outside.specs.declared.fault.OutFail.TheVariants.{Failed, NoMemory}
use Rattle.line_loop.specs.Machine.{Failures}
use Rattle.line_loop.specs.Spending.{Costs}
use Rattle.feeds_meaning.specs.Hub.{Hub}

-- there is no context that could fail, and without memory no state is told
abbrev pub leaves : Failures Hub
leaves Failed h line told = ⊥
leaves NoMemory h line told = Unit {0}

-- nothing is counted
abbrev pub cost : Costs Hub
cost h line = 0
