use Rattle.std.proofs.Common.{◌≡◌, ◌≤◌, ◌+◌, ◌-◌, length, drop}
use Rattle.relation.specs.Projection.{variable_place}
use Rattle.relation.proofs.projection.place_of.Given as goal

abbrev pub invariant-loop-place : goal.invariant-loop-place
invariant-loop-place l = record {
  in_range : l.place ≤ length l.vars;
  same : variable_place l.vars l.var ≡ l.place + variable_place (drop l.place l.vars) l.var;
}

abbrev pub decreases-loop-place : goal.decreases-loop-place
decreases-loop-place l = length l.vars - l.place
