use Rattle.std.proofs.Common.{◌-◌, ◌<◌, ◌≤◌, length, take}
use Rattle.std.specs.Prelude.{All}
use Rattle.kept_rows.specs.declared.change.Change.{Change}
use Rattle.kept_rows.proofs.moving.count_below.Given as goal

abbrev pub invariant-changes : goal.invariant-changes
invariant-changes g l = record {
  few : l.count ≤ length l.changes;
  below : All (λ (x : Change g.row.S.Denot). x.number < l.to) (take l.count l.changes);
}

abbrev pub decreases-changes : goal.decreases-changes
decreases-changes g l = length l.changes - l.count
