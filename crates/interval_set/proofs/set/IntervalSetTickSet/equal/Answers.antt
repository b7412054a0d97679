use Rattle.std.proofs.Common.{refl}
use Rattle.interval_set.proofs.SpanLemmas.{equal_iff}
use Rattle.interval_set.proofs.set.IntervalSetTickSet.equal.Goals as goal

pub returns : goal.returns
returns c =
    rw (c.eq.ensures, c.as_slice.ensures.value, c.as_slice-2.ensures.value, ← c.self.view_is, ← c.other.view_is)
    (equal_iff _ (λ a b. refl) _ _ c.self.invariant c.other.invariant)
