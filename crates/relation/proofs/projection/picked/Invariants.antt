use Rattle.std.proofs.Common.{◌≡◌, take}
use Rattle.relation.specs.Projection.{picked}
use Rattle.relation.proofs.projection.picked.Given as goal

abbrev pub invariant-loop-var : goal.invariant-loop-var
invariant-loop-var g l = l.made ≡ picked l.own l.row.key (take l.var-index l.vars)
