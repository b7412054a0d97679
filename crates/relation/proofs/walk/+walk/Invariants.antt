use Rattle.std.proofs.Common.{◌-◌, ◌^◌, length}
use Rattle.relation.specs.Walk.{IsWalking}
use Rattle.relation.proofs.walk.+walk.Given as goal

abbrev pub decreases-walk : goal.decreases-walk
decreases-walk g l = length l.vars.now

abbrev pub invariant-objects : goal.invariant-objects
invariant-objects g l = IsWalking g.S.TickSet.member l.operation l.key l.var l.later l.parts.left l.parts.right l.initial.made l.made l.from

abbrev pub decreases-objects : goal.decreases-objects
decreases-objects g l = 2 ^ 32 - l.from
