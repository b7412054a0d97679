use Rattle.std.proofs.Common.{◌-◌, ◌≤◌}
use Rattle.kept_rows.specs.Rows.{row_has}
use Rattle.kept_rows.specs.Turning.{AreSteadyIn}
use Rattle.kept_rows.proofs.turns.Turns.unsteady_from.Given as goal

-- the rows up to this number don't turn by then
abbrev pub invariant-numbers : goal.invariant-numbers
invariant-numbers g l = record {
  least : l.from ≤ l.number;
  steady : AreSteadyIn (row_has g.S.TickSet.member l.pages) l.self.seen l.now l.from l.number;
}

abbrev pub decreases-numbers : goal.decreases-numbers
decreases-numbers g l = l.to - l.number
