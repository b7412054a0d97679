use Rattle.std.proofs.Common.{ℕ, ◌-◌, ◌<◌, length}
use Rattle.kept_rows.specs.Rows.{page_has}
use Rattle.kept_rows.specs.Turning.{IsSteady}
use Rattle.kept_rows.proofs.page.Page.all_steady_until.Given as goal

-- the places up to this one don't turn before the end
abbrev pub invariant-cells : goal.invariant-cells
invariant-cells g l = (i : ℕ) → i < l.at → IsSteady (page_has g.S.TickSet.member l.self i) l.t l.end

abbrev pub decreases-cells : goal.decreases-cells
decreases-cells g l = length l.self - l.at
