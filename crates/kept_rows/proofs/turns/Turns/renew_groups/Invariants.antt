use Rattle.std.proofs.Common.{◌≡◌, ◌-◌, length}
use Rattle.kept_rows.specs.Rows.{row_has}
use Rattle.kept_rows.specs.Turning.{AreSteadyToEnds}
use Rattle.kept_rows.proofs.turns.Turns.renew_groups.Given as goal

abbrev pub invariant-groups : goal.invariant-groups
invariant-groups g l = record {
  pages : length l.self.pages.items ≡ length l.fn.self.pages.items;
  groups : length l.self.groups.items ≡ length l.fn.self.groups.items;
  steady : AreSteadyToEnds (row_has g.S.TickSet.member l.pages) l.self;
}

abbrev pub decreases-groups : goal.decreases-groups
decreases-groups g l = l.count - l.group
