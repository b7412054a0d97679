use Rattle.std.proofs.Common.{◌-◌, ◌≤◌}
use Rattle.motion.specs.Range.{IsRange}
use Rattle.motion.proofs.vector.Vector.range.Given as goal

-- the range of the ticks so far
abbrev pub invariant-legs : goal.invariant-legs
invariant-legs l = record {
  from : l.fn.lo ≤ l.at;
  upto : l.at ≤ l.hi;
  range : IsRange l.self l.fn.lo l.at l.least l.greatest;
}

abbrev pub decreases-legs : goal.decreases-legs
decreases-legs l = l.hi - l.at
