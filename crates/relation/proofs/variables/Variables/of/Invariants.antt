use Rattle.std.proofs.Common.{◌≡◌, take}
use Rattle.relation.proofs.variables.Variables.of.Given as goal

abbrev pub invariant-loop-var : goal.invariant-loop-var
invariant-loop-var l = l.made ≡ take l.var-index l.vars
