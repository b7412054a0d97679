use Rattle.std.proofs.Common.{◌-◌, ◌≤◌}
use Rattle.kept_rows.specs.Rows.{row_has}
use Rattle.kept_rows.specs.Slots.{HaveNoneAt}
use Rattle.kept_rows.proofs.marks.Marks.next.Given as goal

-- no row up to this number has a tick in the slots
abbrev pub invariant-numbers : goal.invariant-numbers
invariant-numbers g l = record {
  least : l.from ≤ l.number;
  free : HaveNoneAt (row_has g.S.TickSet.member l.pages) l.slots l.from l.number;
}

abbrev pub decreases-numbers : goal.decreases-numbers
decreases-numbers g l = l.to - l.number
