use Rattle.std.proofs.Common.{◌-◌, length}
use Rattle.plane_index.specs.Columns.{IsColumn}
use Rattle.plane_index.proofs.column.Column.fill.Given as goal

abbrev pub invariant-places : goal.invariant-places
invariant-places l = IsColumn l.fn.grid l.fn.states l.fn.s l.self-inside.covers.items

abbrev pub decreases-places : goal.decreases-places
decreases-places l = length l.fn.states - length l.self-inside.covers.items
