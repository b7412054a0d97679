use Rattle.std.proofs.Common.{◌≡◌, ◌-◌, ◌≤◌, ◌++◌}
use Rattle.kept_rows.specs.Listing.{line_of, lines_between, lines_upto, target_has}
use Rattle.kept_rows.specs.Rows.{row_has}
use Rattle.kept_rows.proofs.listing.answer.Given as goal

-- the lines so far and those from this target on are all lines
abbrev pub invariant-targets : goal.invariant-targets
invariant-targets g l = record {
  few : l.target ≤ l.targets.count;
  lines : l.lines.items ++ lines_between (line_of (target_has (row_has g.S.TickSet.member l.kept) l.targets.width) l.window.lo l.window.hi) l.target l.targets.count
      ≡ lines_upto (line_of (target_has (row_has g.S.TickSet.member l.kept) l.targets.width) l.window.lo l.window.hi) l.targets.count;
}

abbrev pub decreases-targets : goal.decreases-targets
decreases-targets g l = l.targets.count - l.target
