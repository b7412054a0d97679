use Rattle.std.proofs.Common.{◌+◌, ◌-◌}
use Rattle.plane_index.specs.Columns.{AreColumns}
use Rattle.plane_index.proofs.states.fill_from.Given as goal

abbrev pub invariant-slices : goal.invariant-slices
invariant-slices l = AreColumns l.fn.grid l.fn.states l.columns

abbrev pub decreases-slices : goal.decreases-slices
decreases-slices l = l.fn.last + 1 - l.s
