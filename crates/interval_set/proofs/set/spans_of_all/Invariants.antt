use Rattle.std.proofs.Common.{◌≡◌, ℕ, take}
use Rattle.std.specs.List.{list_any}
use Rattle.tick_set.specs.Runs.{spans_have}
use Rattle.interval_set.proofs.set.spans_of_all.Given as goal

abbrev pub invariant-loop-set : goal.invariant-loop-set
invariant-loop-set l = (t : ℕ) → spans_have l.all.items t ≡ list_any (λ s. spans_have s.now t) (take l.set-index l.sets)
