use Rattle.std.proofs.Common.{◌-◌, ◌^◌, ◌≤◌}
use Rattle.kept_rows.specs.Filled.{HaveNoneIn}
use Rattle.kept_rows.proofs.filled.Filled.past_none.Given as goal

-- there are no ticks up to this number
abbrev pub invariant-groups : goal.invariant-groups
invariant-groups l = record {
  least : l.from ≤ l.number;
  most : l.number ≤ 2 ^ 33;
  none : HaveNoneIn l.self l.from l.number;
}

abbrev pub decreases-groups : goal.decreases-groups
decreases-groups l = l.to - l.number
