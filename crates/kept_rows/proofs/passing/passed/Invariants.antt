use Rattle.std.proofs.Common.{◌≡◌, ◌-◌, ◌≤◌, ◌++◌}
use Rattle.kept_rows.specs.Listing.{lines_between, lines_upto, passing_of, target_has}
use Rattle.kept_rows.specs.Rows.{row_has}
use Rattle.kept_rows.proofs.passing.passed.Given as goal

-- the targets so far that pass and those from this target on are all that pass
abbrev pub invariant-targets : goal.invariant-targets
invariant-targets g l = record {
  few : l.target ≤ l.targets.count;
  passings : l.passings.items ++ lines_between (passing_of (target_has (row_has g.S.TickSet.member l.kept) l.targets.width) l.expiry l.before l.now) l.target l.targets.count
      ≡ lines_upto (passing_of (target_has (row_has g.S.TickSet.member l.kept) l.targets.width) l.expiry l.before l.now) l.targets.count;
}

abbrev pub decreases-targets : goal.decreases-targets
decreases-targets g l = l.targets.count - l.target
