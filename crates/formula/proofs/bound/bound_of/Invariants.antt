use Rattle.std.proofs.Common.{◌≡◌, ◌≤◌, ◌*◌, ◌^◌, take}
use Rattle.std.specs.Prelude.{sum_by}
use Rattle.fixed_point.specs.declared.number.TheConstants.{FIX_LIMIT}
use Rattle.formula.specs.Bounds.{factor_bound}
use Rattle.formula.proofs.bound.bound_of.Given as goal

abbrev pub invariant-loop-factor : goal.invariant-loop-factor
invariant-loop-factor l = record {
  value : l.sum ≡ sum_by factor_bound (take l.factor-index l.factor-items);
  small : l.sum ≤ l.factor-index * (2 ^ 32 * FIX_LIMIT);
}
