use Rattle.std.proofs.Common.{◌≡◌, length}
use Rattle.relation.specs.Key.{has_id}
use Rattle.evaluator.proofs.variables.has_variable.Given as goal

abbrev pub invariant-loop-first : goal.invariant-loop-first
invariant-loop-first l = has_id l.vars l.var ≡ has_id l.rest l.var

abbrev pub decreases-loop-first : goal.decreases-loop-first
decreases-loop-first l = length l.rest
