use Rattle.std.proofs.Common.{◌≡◌, ℕ, ◌-◌, ◌*◌, ◌<◌, ◌≤◌, length}
use Rattle.std.specs.Prelude.{slice_index_or}
use Rattle.kept_rows.specs.Rows.{row_has}
use Rattle.kept_rows.specs.Turning.{HaveEnds}
use Rattle.kept_rows.proofs.turns.renew_pages.Given as goal

-- the ends of the pages up to this one are told, and are not below the least
abbrev pub invariant-pages : goal.invariant-pages
invariant-pages g l = record {
  len : length l.ends ≡ length l.fn.ends;
  steady : HaveEnds 16 (row_has g.S.TickSet.member l.pages) l.seen l.ends;
  least : (i : ℕ) → l.group * 64 ≤ i → i < l.at → l.least ≤ slice_index_or l.ends i 0;
}

abbrev pub decreases-pages : goal.decreases-pages
decreases-pages g l = l.to - l.at
