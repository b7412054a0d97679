use Rattle.std.proofs.Common.{◌≡◌, ℕ, ◌*◌, ◌≤◌, ◌++◌, length, map}
use Rattle.kept_rows.specs.Changes.{rows_after}
use Rattle.kept_rows.specs.Listing.{lines_between, lines_upto, target_has}
use Rattle.kept_rows.specs.Moves.{move_of}
use Rattle.kept_rows.specs.Rising.{AscendsWithin}
use Rattle.kept_rows.specs.Rows.{row_has}
use Rattle.kept_rows.proofs.moving.moves.Given as goal

-- the changes that are left are those of the rows of this target and the later ones
abbrev pub invariant-targets : goal.invariant-targets
invariant-targets g l = record {
  few : l.target ≤ l.targets.count;
  rising : AscendsWithin (l.target * l.targets.width) (l.targets.count * l.targets.width) (map (λ x. x.number) l.rest);
  alike : (c t : ℕ) → l.target * l.targets.width ≤ c → rows_after g.S.TickSet.member l.changes (row_has g.S.TickSet.member l.kept) c t
      ≡ rows_after g.S.TickSet.member l.rest (row_has g.S.TickSet.member l.kept) c t;
  moves : l.moves.items ++ lines_between (move_of (target_has (row_has g.S.TickSet.member l.kept) l.targets.width)
      (target_has (rows_after g.S.TickSet.member l.changes (row_has g.S.TickSet.member l.kept)) l.targets.width) l.window.lo l.window.hi l.now) l.target l.targets.count
      ≡ lines_upto (move_of (target_has (row_has g.S.TickSet.member l.kept) l.targets.width)
      (target_has (rows_after g.S.TickSet.member l.changes (row_has g.S.TickSet.member l.kept)) l.targets.width) l.window.lo l.window.hi l.now) l.targets.count;
}

abbrev pub decreases-targets : goal.decreases-targets
decreases-targets g l = length l.rest
