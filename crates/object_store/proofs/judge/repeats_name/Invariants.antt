use Rattle.std.proofs.Common.{◌≡◌, length}
use Rattle.motion.specs.declared.cell.NamedSet.{NamedSet}
use Rattle.object_store.specs.Faults.{repeats}
use Rattle.object_store.proofs.judge.repeats_name.Given as goal

-- the names that are left decide
abbrev pub invariant-loop-set : goal.invariant-loop-set
invariant-loop-set l = repeats (λ (set : NamedSet). set.name) l.rest ≡ repeats (λ (set : NamedSet). set.name) l.sets

abbrev pub decreases-loop-set : goal.decreases-loop-set
decreases-loop-set l = length l.rest
