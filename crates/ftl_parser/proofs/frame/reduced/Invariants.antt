use Rattle.std.proofs.Common.{◌≡◌, length}
use Rattle.ftl_parser.specs.inner.Machine.{reduced}
use Rattle.ftl_parser.specs.inner.Views.{stack_of}
use Rattle.ftl_parser.proofs.frame.reduced.Given as goal

-- what is left to do gives the same
abbrev pub invariant-loop-frame : goal.invariant-loop-frame
invariant-loop-frame l = reduced l.least l.formula (stack_of l.stack.items) ≡ reduced l.least l.fn.formula (stack_of l.fn.stack.items)

abbrev pub decreases-loop-frame : goal.decreases-loop-frame
decreases-loop-frame l = length (stack_of l.stack.items)
