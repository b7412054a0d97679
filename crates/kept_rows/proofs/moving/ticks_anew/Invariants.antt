use Rattle.std.proofs.Common.{◌≡◌, ℕ, ◌||◌, length}
use Rattle.std.specs.List.{list_any}
use Rattle.kept_rows.proofs.moving.ticks_anew.Given as goal

abbrev pub invariant-changes : goal.invariant-changes
invariant-changes g l =
    (t : ℕ) → (list_any (λ set. g.S.TickSet.member set.now t) l.sets.items || list_any (λ x. g.S.TickSet.member x.ticks t) l.rest) ≡ list_any (λ x. g.S.TickSet.member x.ticks t) l.group

abbrev pub decreases-changes : goal.decreases-changes
decreases-changes g l = length l.rest
