-- A replica as a line machine. It replies to no line, and is done by the first that hasn't its form.
use Rattle.std.specs.Prelude.{◌≡◌, is_some, [], Some}
use Rattle.outside.specs.declared.fault.OutFail.TheVariants.{Failed, NoMemory}
use Rattle.line_loop.specs.Machine.{Machine, Failures}
use Rattle.line_loop.specs.Spending.{Costs}
use Rattle.replica.specs.Feed.{Hearing, next_hearing}

abbrev pub following_machine : Machine Hearing
following_machine = record { next = next_hearing; reply = λ h line. []; done = λ h. is_some h.bad }

-- no context could fail, and want of memory changes nothing
abbrev pub following_leaves : Failures Hearing
following_leaves Failed h line told = ⊥
following_leaves NoMemory h line told = told ≡ Some h

-- nothing is counted
abbrev pub following_cost : Costs Hearing
following_cost h line = 0
