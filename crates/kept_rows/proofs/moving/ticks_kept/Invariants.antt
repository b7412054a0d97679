use Rattle.std.proofs.Common.{◌≡◌, ℕ, ◌||◌, length}
use Rattle.std.specs.List.{list_any}
use Rattle.kept_rows.specs.Rows.{row_has}
use Rattle.kept_rows.proofs.moving.ticks_kept.Given as goal

abbrev pub invariant-changes : goal.invariant-changes
invariant-changes g l =
    (t : ℕ) → (list_any (λ set. g.S.TickSet.member set.now t) l.sets.items || list_any (λ x. row_has g.S.TickSet.member l.kept x.number t) l.rest)
    ≡ list_any (λ x. row_has g.S.TickSet.member l.kept x.number t) l.group

abbrev pub decreases-changes : goal.decreases-changes
decreases-changes g l = length l.rest
