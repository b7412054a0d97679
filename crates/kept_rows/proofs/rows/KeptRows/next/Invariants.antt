use Rattle.std.proofs.Common.{◌≡◌, ℕ, ◌*◌, ◌-◌, ◌/◌, ◌^◌, ◌<◌, ◌≤◌, false}
use Rattle.kept_rows.specs.Rows.{row_has}
use Rattle.kept_rows.proofs.rows.KeptRows.next.Given as goal

-- no row from the start up to this number has a tick
abbrev pub invariant-pages : goal.invariant-pages
invariant-pages g l = record {
  from : l.from ≤ l.number;
  small : l.number ≤ 2 ^ 33;
  before : (c t : ℕ) → l.from ≤ c → c < l.number → row_has g.S.TickSet.member l.self c t ≡ false;
}

abbrev pub decreases-pages : goal.decreases-pages
decreases-pages g l = l.to - l.number / 16 * 16
