use Rattle.std.proofs.Common.{◌≡◌, length}
use Rattle.object_store.specs.Faults.{repeats_attribute}
use Rattle.object_store.proofs.class.repeats_name.Given as goal

-- the names that are left decide
abbrev pub invariant-loop-attr : goal.invariant-loop-attr
invariant-loop-attr l = repeats_attribute l.rest ≡ repeats_attribute l.attrs

abbrev pub decreases-loop-attr : goal.decreases-loop-attr
decreases-loop-attr l = length l.rest
