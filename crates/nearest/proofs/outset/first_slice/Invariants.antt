use Rattle.std.proofs.Common.{◌≡◌, ◌-◌, ◌≤◌}
use Rattle.nearest.proofs.outset.first_slice.Given as goal

abbrev pub invariant-halving : goal.invariant-halving
invariant-halving l = record {
  begins : l.slice.lo ≡ l.fn.w.lo;
  ends : l.slice.hi ≤ l.fn.w.hi;
}

abbrev pub decreases-halving : goal.decreases-halving
decreases-halving l = l.slice.hi - l.slice.lo
